-- What syncs leave: they add no image, and what was done is stable.
use Rattle.std.proofs.Common.{◌≡◌, ◌≢◌, inl, inr, ℕ, suc, ◌+◌, ◌<◌, Bool, true, false, List, All, length, take, get_or, Option, Some, None, IsTrue, subst, sym, ap, ◌∙◌, refl, arith}
use Rattle.std.proofs.lemmas.List.{take_more}
use Rattle.std.proofs.lemmas.List.Elements.{All-push}
use Rattle.wal_base.specs.Faults.{Rose}
use Rattle.disk_face.specs.declared.OpId.{OpId}
use Rattle.disk_face.specs.declared.Side.{Side}
use Rattle.disk_face.specs.declared.FilePlace.TheVariants.{Segment, Table}
use Rattle.disk_face.specs.View.{Place, syncing, Flight, File, Files, DiskView, files, NothingInFlight, AtEachMoment}
use Rattle.disk_face.specs.Image.{IsSound, IsSoundFile, IsImageOf}
use Rattle.disk_face.specs.Calls.{GoesOn, MayStart, Starts, ChangesFile, AfterDone, AfterFailed}
use Rattle.disk_face.proofs.Laws.{same_place, same_id, sync_image, same_files, moments_from, moments_more, moments_stay, moments_joined}
use Rattle.wal_recovery.specs.declared.listing.Found.{Found}
use Rattle.wal_recovery.specs.Rows.{place_listed}
use Rattle.wal_recovery.specs.Resting.{AddsNoImage, IsSynced, IsAsOrSynced, OnlySynced, IsEnd, EndsBy}
use Rattle.wal_recovery.proofs.Tools.{some_is}

pub only_none : (now : Files) → OnlySynced now now
only_none now p = inl refl

as_or_further : (a b c : Option File) → IsAsOrSynced a b → IsAsOrSynced b c → IsAsOrSynced a c
as_or_further a b c (inl e) (inl g) = inl (g ∙ e)
as_or_further a b c (inl e) (inr (f, is, now)) = inr (f, sym e ∙ is, now)
as_or_further a b c (inr (f, is, now)) (inl g) = inr (f, is, g ∙ now)
as_or_further a b c (inr (f, is, now)) (inr (h, also, then_)) =
    let same : record f { stable = f.done } ≡ h = some_is (record f { stable = f.done }) h (sym now ∙ also) in
    inr (f, is, then_ ∙ ap (λ (k : File). Some (record k { stable = k.done })) (sym same))

pub only_further : (a b c : Files) → OnlySynced a b → OnlySynced b c → OnlySynced a c
only_further a b c x y p = as_or_further (a p) (b p) (c p) (x p) (y p)

-- what is synced stays so
pub synced_stays : (o n : Option File) → IsSynced o → IsAsOrSynced o n → IsSynced n
synced_stays o n (f, is, stable) (inl e) = (f, e ∙ is, stable)
synced_stays o n (f, is, stable) (inr (h, also, now)) = (record h { stable = h.done }, now, refl)

sound_file : (p : Place) (f : File) → IsSound p f → IsSoundFile f
sound_file (Segment side name) f sound = sound.0
sound_file (Table upto) f sound = sound.0

pub adds_no_image : (old now : Files) → ((p : Place) (f : File) → old p ≡ Some f → IsSound p f) → OnlySynced old now → AddsNoImage old now
adds_no_image old now sound only dirs image p = go (now p) (only p) (image p)
  where
    go : (n : Option File) → IsAsOrSynced (old p) n → IsImageOf p n (dirs p) → IsImageOf p (old p) (dirs p)
    go n (inl e) im = subst (λ (o : Option File). IsImageOf p o (dirs p)) e im
    go n (inr (f, is, then_)) im =
        subst (λ (o : Option File). IsImageOf p o (dirs p)) (sym is)
        (sync_image p f (dirs p) (sound_file p f (sound p f is)) (subst (λ (o : Option File). IsImageOf p o (dirs p)) then_ im))

-- ---- one sync

start_changes : (place : Place) (old new : DiskView) → ChangesFile place (λ (f g : Option File). g ≡ f) old new → OnlySynced (files old) (files new)
start_changes place old new change p = elim (same_place p place) [
  | inl e ↦ inl (ap (files new) e ∙ change.here ∙ ap (files old) (sym e))
  | inr ne ↦ inl (change.others p ne)
]

end_changes : (place : Place) (old new : DiskView) (Change : Option File → Option File → Type 0)
    → ((f g : Option File) → Change f g → IsAsOrSynced f g) → ChangesFile place Change old new → OnlySynced (files old) (files new)
end_changes place old new Change by change p = elim (same_place p place) [
  | inl e ↦ subst (λ (q : Place). IsAsOrSynced (files old q) (files new q)) (sym e) (by (files old place) (files new place) change.here)
  | inr ne ↦ inl (change.others p ne)
]

done_as : (f g : Option File) → AfterDone syncing f g → IsAsOrSynced f g
done_as None g e = inl e
done_as (Some f) g e = inr (f, refl, e)

failed_as : (f g : Option File) → AfterFailed syncing f g → IsAsOrSynced f g
failed_as None g e = inl e
failed_as (Some f) g e = inl e

done_synced : (f g : Option File) → (h : File) → f ≡ Some h → AfterDone syncing f g → IsSynced g
done_synced f g h is after = (record h { stable = h.done }, subst (λ (o : Option File). AfterDone syncing o g) is after, refl)

-- what may be synced is there
pub file_there : (o : Option File) → MayStart syncing o → (f : File) × (o ≡ Some f)
file_there None may = absurd may
file_there (Some f) may = (f, refl)

-- the moments of some syncs, and of later ones
pub moments_of_both : (old mid new : DiskView) → GoesOn old mid → GoesOn mid new → AtEachMoment old.clock mid (OnlySynced (files old))
    → AtEachMoment mid.clock new (OnlySynced (files mid))
    → AtEachMoment old.clock new (OnlySynced (files old))
moments_of_both old mid new goes later first more =
    moments_joined old.clock mid new (OnlySynced (files old)) first later
    (λ k low high. only_further (files old) (files mid) (new.history k) (first mid.clock goes.clock (omega arith)) (more k low high))

-- A sync from its start to its end.
module _ (tells : Bool) (place : Place) (side : Side) (id : OpId) (old started new : DiskView) (done : Bool)
    (starts : Starts (record { place = place; act = syncing }) side id old started) (end : EndsBy tells id started new done) where
  abbrev flight : Flight
  flight = record { place = place; act = syncing }

  flies : end.mid.in_flight id ≡ Some flight
  flies = ap (λ (h : OpId → Option Flight). h id) end.same.in_flight ∙ starts.here

  pub idle_after : NothingInFlight old → NothingInFlight new
  idle_after idle q = elim (same_id q id) [
    | inl e ↦ ap new.in_flight e ∙ gone_by done end.end
    | inr ne ↦ others_by done end.end q ne ∙ ap (λ (h : OpId → Option Flight). h q) end.same.in_flight ∙ starts.others q ne ∙ idle q
  ]
    where
      gone_by : (d : Bool) → IsEnd tells id end.mid new d → new.in_flight id ≡ None
      gone_by true e = e.ends.gone
      gone_by false e = e.ends.gone

      others_by : (d : Bool) → IsEnd tells id end.mid new d → (q : OpId) → q ≢ id → new.in_flight q ≡ end.mid.in_flight q
      others_by true e = e.ends.others
      others_by false e = e.ends.others

  pub rose_after : GoesOn old started → done ≡ false → Rose (old.faults side) (new.faults side)
  rose_after goes failed =
      let rose : Rose (end.mid.faults id.side) (new.faults id.side) = by_end done failed end.end in
      let there : id.side ≡ side = starts.side_is in
      let risen : Rose (end.mid.faults side) (new.faults side) = subst (λ s. Rose (end.mid.faults s) (new.faults s)) there rose in
      omega (arith, risen, end.goes.faults side, goes.faults side)
    where
      by_end : (d : Bool) → d ≡ false → IsEnd tells id end.mid new d → Rose (end.mid.faults id.side) (new.faults id.side)
      by_end true e is = absurd cc
      by_end false e is = is.rose

  module _ (told : IsTrue tells) (change : ChangesFile place (λ (f g : Option File). g ≡ f) old started) where
    only_started : OnlySynced (files old) (files started)
    only_started = start_changes place old started change

    mid_files : files end.mid ≡ files started
    mid_files = same_files started end.mid end.same

    clock_by : (d : Bool) → IsEnd tells id end.mid new d → new.clock ≡ suc end.mid.clock
    clock_by true e = (e.file told flight flies).clock
    clock_by false e = (e.file told flight flies).clock

    only_by : (d : Bool) → IsEnd tells id end.mid new d → OnlySynced (files end.mid) (files new)
    only_by true e = end_changes place end.mid new (AfterDone syncing) done_as (e.file told flight flies)
    only_by false e = end_changes place end.mid new (AfterFailed syncing) failed_as (e.file told flight flies)

    only_mid : OnlySynced (files old) (files end.mid)
    only_mid = subst (λ (fs : Files). OnlySynced (files old) fs) (sym mid_files) only_started

    pub sync_moments : GoesOn old started → AtEachMoment old.clock new (OnlySynced (files old))
    sync_moments goes =
        moments_more old.clock end.mid new (OnlySynced (files old))
        (moments_stay old.clock started end.mid (OnlySynced (files old))
        (moments_more old.clock old started (OnlySynced (files old)) (moments_from old (OnlySynced (files old)) (only_none (files old)))
        goes change.clock only_started)
        end.goes end.same.clock)
        end.later (clock_by done end.end) (only_further (files old) (files end.mid) (files new) only_mid (only_by done end.end))

    pub sync_done : done ≡ true → (f : File) → files old place ≡ Some f → IsSynced (files new place)
    sync_done ended f is = by_end done ended end.end
      where
        by_end : (d : Bool) → d ≡ true → IsEnd tells id end.mid new d → IsSynced (files new place)
        by_end false e is_end = absurd cc
        by_end true e is_end =
            done_synced (files end.mid place) (files new place) f (ap (λ (fs : Files). fs place) mid_files ∙ change.here ∙ is)
            (is_end.file told flight flies).here

-- one segment more is synced
pub synced_more : (mid new : Files) (segments : List Found) (i : ℕ) (d : Found) → i < length segments
    → All (λ (g : Found). IsSynced (mid (place_listed g))) (take i segments) → OnlySynced mid new
    → IsSynced (new (place_listed (get_or segments i d))) → All (λ (g : Found). IsSynced (new (place_listed g))) (take (i + 1) segments)
synced_more mid new segments i d lt before only here =
    let kept : All (λ (g : Found). IsSynced (new (place_listed g))) (take i segments) = λ k d low.
    synced_stays (mid (place_listed (get_or (take i segments) k d))) (new (place_listed (get_or (take i segments) k d))) (before k d low)
    (only (place_listed (get_or (take i segments) k d))) in
    let pushed = All-push (λ (g : Found). IsSynced (new (place_listed g))) (take i segments) (get_or segments i d) kept here in
    subst (λ (l : List Found). All (λ (g : Found). IsSynced (new (place_listed g))) l) (sym (take_more segments i d lt)) pushed
