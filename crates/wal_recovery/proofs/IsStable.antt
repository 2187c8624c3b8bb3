-- Files at rest that were synced are stable in full, and the moments of a run that changes nothing or only syncs.
use Rattle.std.proofs.Common.{◌≡◌, inl, inr, ℕ, List, All, Contains, length, get_or, Option, Some, subst, sym, ◌∙◌, refl}
use Rattle.std.proofs.lemmas.List.Elements.{Contains-get_or}
use Rattle.disk_face.specs.View.{Place, segment, syncing, File, Files, DiskView, files, AtEachMoment}
use Rattle.disk_face.specs.Image.{IsSound, IsRested, IsRestedFile}
use Rattle.disk_face.specs.Listing.{HasLength}
use Rattle.disk_face.specs.Calls.{SameDisk, MayStart}
use Rattle.disk_face.proofs.Laws.{same_files}
use Rattle.wal_recovery.specs.declared.listing.Found.{Found}
use Rattle.wal_recovery.specs.Rows.{files_from, place_listed, IsRowOf}
use Rattle.wal_recovery.proofs.From.{some_left, left_has}
use Rattle.wal_recovery.specs.Resting.{IsStable, AreSegmentsStable, AddsNoImage, IsSynced, IsAsOrSynced, OnlySynced}
use Rattle.wal_recovery.proofs.Syncs.{adds_no_image}
use Rattle.wal_recovery.proofs.Tools.{some_is}

-- each segment of a row may be synced
there_in : (fs : Files) (f : Found) → HasLength fs (place_listed f) f.len → MayStart syncing (fs (place_listed f))
there_in fs f has = subst (λ (o : Option File). MayStart syncing o) (sym has.1) has.2

pub may_sync : (fs : Files) (row : List Found) → ((f : Found) → Contains row f → HasLength fs (place_listed f) f.len)
    → All (λ (f : Found). MayStart syncing (fs (place_listed f))) row
may_sync fs row there k d lt = there_in fs (get_or row k d) (there (get_or row k d) (Contains-get_or row k d lt))

-- what was whole and is synced is stable
stable_here : (o n : Option File) (f : File) → n ≡ Some f → ((g : File) → o ≡ Some g → IsRestedFile g) → IsAsOrSynced o n → IsSynced n → IsStable f
stable_here o n f is rested (inl e) (g, there, stable) =
    let r = rested f (sym e ∙ is) in
    let same : g ≡ f = some_is g f (sym there ∙ is) in
    record { created = r.created; stays = r.stays; whole = subst (λ (h : File). h.stable ≡ h.done) same stable ∙ r.done }
stable_here o n f is rested (inr (g, was, now)) synced =
    let r = rested g was in
    subst IsStable (some_is (record g { stable = g.done }) f (sym now ∙ is)) (record { created = r.created; stays = r.stays; whole = r.done })

was_there : (o n : Option File) (f : File) → n ≡ Some f → IsAsOrSynced o n → (g : File) × (o ≡ Some g)
was_there o n f is (inl e) = (f, sym e ∙ is)
was_there o n f is (inr (g, was, now)) = (g, was)

pub all_stable : (least : ℕ) (old new : Files) (row : List Found) → IsRowOf (files_from least old) row → IsRested old → OnlySynced old new
    → All (λ (f : Found). IsSynced (new (place_listed f))) row → AreSegmentsStable (files_from least new)
all_stable least old new row is rested only synced side name f named left =
    let place = segment side name in
    let there = some_left least new side name f left in
    let was = was_there (old place) (new place) f there.1 (only place) in
    let found : Found = record { side = side; name = name; len = length was.0.reads } in
    let at : Contains row found = (is found).1
    (named, left_has least old side name found.len there.0 (was.0, was.1, (rested place was.0 was.1).created, refl)) in
    let here : IsSynced (new place) = subst (λ (g : Found). IsSynced (new (place_listed g))) at.2 (synced at.0 found at.1) in
    stable_here (old place) (new place) f there.1 (rested place) (only place) here

-- ---- moments

-- a run that changes nothing, and one after it
pub same_then : (old mid new : DiskView) (P : Files → Files → Type 0) → SameDisk old mid → AtEachMoment mid.clock new (P (files mid))
    → AtEachMoment old.clock new (P (files old))
same_then old mid new P same each =
    subst (λ (fs : Files). AtEachMoment old.clock new (P fs)) (same_files old mid same) (subst (λ (k : ℕ). AtEachMoment k new (P (files mid))) same.clock each)

-- syncs add no image
pub synced_moments : (since : ℕ) (new : DiskView) (fs : Files) → ((p : Place) (f : File) → fs p ≡ Some f → IsSound p f)
    → AtEachMoment since new (OnlySynced fs) → AtEachMoment since new (AddsNoImage fs)
synced_moments since new fs sound each k low high = adds_no_image fs (new.history k) sound (each k low high)
