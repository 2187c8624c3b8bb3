-- A draft with one entry more.
use Rattle.std.proofs.Common.{◌≡◌, ℕ, ◌<◌, ◌≤◌, List, [], ◌∷◌, ◌++◌, length, refl, sym, ap, ◌∙◌, append_assoc, Some, None, subst}
use Rattle.std.specs.Prelude.{replicate}
use Rattle.std.specs.List.{flat_map}
use Rattle.std.proofs.lemmas.Bool.{lt-ltb, le-ltb}
use Rattle.std.proofs.lemmas.List.{length-append, append-nil}
use Rattle.std.proofs.lemmas.List.Elements.{All-push}
use Rattle.std.proofs.lemmas.Grind.{flat_map-append}
use Rattle.wal_base.specs.declared.entry.Entry.{Entry}
use Rattle.batch_repr.specs.declared.fault.BuildFault.TheVariants as faults
use Rattle.batch_repr.specs.Limits.{IsWithinLimits}
use Rattle.batch_repr.specs.declared.limits.TheConstants.{BATCH_MAX}
use Rattle.batch_repr.specs.Written.{written_entry, written_entries, written_len}
use Rattle.batch_repr.specs.Building.{room_fault}
use Rattle.batch_repr.specs.Draft.{IsDraft}

pub written_entries-push : (entries : List Entry) (entry : Entry) → written_entries (entries ++ entry ∷ []) ≡ written_entries entries ++ written_entry entry
unfolding written_entries
written_entries-push entries entry = flat_map-append written_entry entries (entry ∷ [])
    ∙ ap (λ (t : List ℕ). flat_map written_entry entries ++ t) (append-nil (written_entry entry))

spelled_more : (bytes bytes' : List ℕ) (entries : List Entry) (entry : Entry) → IsDraft bytes entries
    → bytes' ≡ bytes ++ written_entry entry → bytes' ≡ replicate 12 0 ++ written_entries (entries ++ entry ∷ [])
spelled_more bytes bytes' entries entry d e =
    e ∙ ap (λ (t : List ℕ). t ++ written_entry entry) d.spelled
    ∙ append_assoc (replicate 12 0) (written_entries entries) (written_entry entry)
    ∙ ap (λ (t : List ℕ). replicate 12 0 ++ t) (sym (written_entries-push entries entry))

pub len_is : (bytes bytes' : List ℕ) (entries : List Entry) (entry : Entry) → IsDraft bytes entries → bytes' ≡ bytes ++ written_entry entry
    → length bytes' ≡ written_len (entries ++ entry ∷ [])
len_is bytes bytes' entries entry d e =
    ap length (spelled_more bytes bytes' entries entry d e) ∙ length-append (replicate 12 0) (written_entries (entries ++ entry ∷ []))

pub draft_more : (bytes bytes' : List ℕ) (entries entries' : List Entry) (entry : Entry) → IsDraft bytes entries → IsWithinLimits entry
    → bytes' ≡ bytes ++ written_entry entry → length bytes' ≤ BATCH_MAX → entries' ≡ entries ++ entry ∷ [] → IsDraft bytes' entries'
draft_more bytes bytes' entries entries' entry d within e small f =
    subst (IsDraft bytes') (sym f) (record {
      spelled = spelled_more bytes bytes' entries entry d e;
      limits = All-push IsWithinLimits entries entry d.limits within;
      size = small;
    })

pub no_room : (len n : ℕ) → len ≡ n → BATCH_MAX < n → room_fault len ≡ Some (faults.BatchTooLong n)
no_room len n e h = rw (e, lt-ltb BATCH_MAX n h) refl

pub has_room : (len n : ℕ) → len ≡ n → n ≤ BATCH_MAX → room_fault len ≡ None
has_room len n e h = rw (e, le-ltb BATCH_MAX n h) refl
