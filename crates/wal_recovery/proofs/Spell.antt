-- Records that spell batches, one record more, and the first that spells none.
use Rattle.std.proofs.Common.{◌≡◌, ◌<◌, ◌+◌, ℕ, Bool, true, false, List, [], ◌∷◌, ◌++◌, All, length, take, drop, get_or, subst, sym, ap, ◌∙◌, refl, arith}
use Rattle.std.proofs.lemmas.List.{take_more, take-append-drop, drop_more}
use Rattle.std.specs.List.{AllByRecursion}
use Rattle.std.proofs.lemmas.List.Elements.{All-from_recursion}
use Rattle.std.proofs.lemmas.Bool.Decides.{nat_tests}
use Rattle.segment_merge.specs.Rows.{IsNumbered}
use Rattle.batch_repr.specs.declared.batch.Batch.{Batch}
use Rattle.batch_repr.specs.Spelling.{SpellsBatch}
use Rattle.block_record.specs.declared.records.Rec.{Rec}
use Rattle.wal_recovery.specs.declared.decoding.DecodeFault.{DecodeFault}
use Rattle.wal_recovery.specs.declared.decoding.DecodeFault.TheVariants as decodes
use Rattle.wal_recovery.specs.Recovering.{Spell, takes_number, taking_numbers}
use Rattle.wal_recovery.specs.Refused.{IsBadRecord}
use Rattle.wal_recovery.specs.Decoded.{BadOrMemory, IsBadAt}

spell_push : (records : List Rec) (batches : List Batch) (r : Rec) (b : Batch) → Spell records batches → SpellsBatch r.bytes b
    → Spell (records ++ r ∷ []) (batches ++ b ∷ [])
spell_push [] [] r b h s = (s, tt)
spell_push [] (c ∷ batches) r b h s = absurd h
spell_push (q ∷ records) [] r b h s = absurd h
spell_push (q ∷ records) (c ∷ batches) r b h s = (h.0, spell_push records batches r b h.1 s)

-- the record at a place is after those before it
pub spell_more : (records : List Rec) (batches : List Batch) (i : ℕ) (r : Rec) (b : Batch) → i < length records → r ≡ get_or records i r
    → Spell (take i records) batches → SpellsBatch r.bytes b
    → Spell (take (i + 1) records) (batches ++ b ∷ [])
spell_more records batches i r b lt is h s =
    subst (λ (front : List Rec). Spell front (batches ++ b ∷ []))
    (ap (λ (x : Rec). take i records ++ x ∷ []) is ∙ sym (take_more records i r lt)) (spell_push (take i records) batches r b h s)

cut_at : (records : List Rec) (i : ℕ) (r : Rec) → i < length records → r ≡ get_or records i r → records ≡ take i records ++ r ∷ drop (i + 1) records
cut_at records i r lt is =
    sym (ap (λ xs. take i records ++ xs) (sym (drop_more records i r lt ∙ ap (λ b. b ∷ drop (i + 1) records) (sym is))) ∙ take-append-drop i records)

-- the first that spells no batch
pub bad_in : (records : List Rec) (batches : List Batch) (i : ℕ) (r : Rec) (fault : DecodeFault) → i < length records
    → r ≡ get_or records i r → Spell (take i records) batches
    → BadOrMemory (IsBadAt r) fault → BadOrMemory (IsBadRecord records) fault
bad_in records batches i r decodes.NoMemory lt is h bad = tt
bad_in records batches i r (decodes.Bad place fault) lt is h bad =
    record {
      front = take i records;
      bad = r;
      back = drop (i + 1) records;
      records_are = cut_at records i r lt is;
      batches = batches;
      spelled = h;
      place_is = bad.0;
      fault_is = bad.1;
    }

-- ---- those that take a number

numbered_by : (records : List Rec) (batches : List Batch) → Spell records batches → AllByRecursion IsNumbered (taking_numbers batches)
numbered_by [] [] h = tt
numbered_by [] (b ∷ batches) h = absurd h
numbered_by (r ∷ records) [] h = absurd h
numbered_by (r ∷ records) (b ∷ batches) h = go (numbered_by records batches h.1) (takes_number b) refl
  where
    go : AllByRecursion IsNumbered (taking_numbers batches) → (t : Bool) → takes_number b ≡ t → AllByRecursion IsNumbered (taking_numbers (b ∷ batches))
    go later true e = rw e (record { some = grind (arith, nat_tests); within = h.0.numbers }, later)
    go later false e = rw e later

-- each batch that takes a number ends within the numbers
pub counted_numbered : (records : List Rec) (batches : List Batch) → Spell records batches → All IsNumbered (taking_numbers batches)
counted_numbered records batches h = All-from_recursion IsNumbered (taking_numbers batches) (numbered_by records batches h)
