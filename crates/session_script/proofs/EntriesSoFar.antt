-- Entries that are taken one after another.
use Rattle.std.proofs.Common.{◌≡◌, ◌≢◌, ℕ, List, [], ◌∷◌, ◌++◌, Result, Ok, Err, Option, Some, None, true, false, refl, sym, ap, ◌∙◌, subst, append_assoc}
use Rattle.std.specs.Prelude.{codes, IsErrAnd, IfNone, is_ok, is_some}
use Rattle.std.proofs.lemmas.List.{append-nil}
use Rattle.std.proofs.lemmas.Slice.Eq.{bytes_eq-Decides}
use Rattle.wal_base.specs.declared.entry.Entry.{Entry}
use Rattle.batch_repr.specs.Building.{MakesBatch}
use Rattle.session_script.specs.declared.fault.LineFault.{LineFault}
use Rattle.session_script.specs.declared.fault.LineFault.TheVariants as faults
use Rattle.session_script.specs.Words.{parts_of, SpellsOneEntry, SpellEntries}
use Rattle.session_script.specs.Spelled.{AsksForBatch, SpellNoEntries}
use Rattle.session_script.proofs.OneScript.{spell_one}
use Rattle.session_script.proofs.Parts.{part_at, part_last, parted, one_front, spell_push, SpelledAfter, spelled_after}

-- a fault that is handed on
pub handed_on : {T : Type 0} (r : Result T LineFault) (fault : LineFault) → IsErrAnd r (λ e. e ≡ fault) → r ≡ Err faults.Bad → fault ≡ faults.Bad
handed_on (Ok done) fault is e = absurd cc
handed_on (Err told) fault is e = let same : told ≡ faults.Bad = cc in sym is ∙ same

-- what holds where nothing was made, and that is called bad
pub none_made : {T : Type 0} (made : Option T) (r : Result T LineFault) (P : Type 0) → IfNone made P → is_ok r ≡ is_some made → r ≡ Err faults.Bad → P
none_made None r P p variant e = p
none_made (Some made) r P p variant e = let no : false ≡ true = ap is_ok (sym e) ∙ variant in absurd cc

-- These entries were taken of all the words, and the rest are left.
pub record EntriesSoFar (all rest : List (List ℕ)) (entries : List Entry) : Type 0 where
  pub front : List (List (List ℕ))
  pub is : parts_of all ≡ front ++ parts_of rest
  pub spelled : SpellEntries entries front

pub no_entry_so_far : (all : List (List ℕ)) (entries : List Entry) → entries ≡ [] → EntriesSoFar all all entries
unfolding SpellEntries
no_entry_so_far all entries e = record { front = []; is = refl; spelled = rw e tt }

-- Entries that make no batch are all that the words spell.
pub no_batch : (all : List (List ℕ)) (entries : List Entry) → SpellEntries entries (parts_of all) → (MakesBatch entries → ⊥) → (others : List Entry)
    → AsksForBatch all others → ⊥
no_batch all entries spelled none others asks = none (subst MakesBatch (spell_one (parts_of all) others entries asks.spelled spelled) asks.makes)

module _ (all rest : List (List ℕ)) (entries : List Entry) (so_far : EntriesSoFar all rest entries) where
  -- what other entries of all the words have next
  next_of : (others : List Entry) → SpellEntries others (parts_of all) → SpelledAfter others entries (parted rest).first
  next_of others s = spelled_after others entries so_far.front (parted rest).others (parted rest).first so_far.spelled
      (subst (SpellEntries others) (so_far.is ∙ ap (λ (p : List (List (List ℕ))). so_far.front ++ p) (parted rest).parts) s)

  -- no entry comes next
  pub no_next : ((entry : Entry) (part more : List (List ℕ)) → rest ≡ part ++ more → SpellsOneEntry entry part → ⊥) → SpellNoEntries all
  no_next none others s = let n = next_of others s in none n.entry (parted rest).first (parted rest).after (parted rest).whole n.spells

  module _ (part left : List (List ℕ)) (entry : Entry) (is : rest ≡ part ++ left) (spells : SpellsOneEntry entry part) where
    -- another word than a semicolon comes after it
    pub no_semicolon : (word : List ℕ) (more : List (List ℕ)) → left ≡ word ∷ more → word ≢ codes ";" → SpellNoEntries all
    no_semicolon word more e other others s =
        let n = next_of others s in
        let same = one_front rest (parted rest).first (parted rest).after part left (parted rest).whole is n.entry entry n.spells spells in
        other ((bytes_eq-Decides word (codes ";")).0 ((parted rest).ends word more (same.1 ∙ e)))

    module _ (longer : List Entry) (added : longer ≡ entries ++ entry ∷ []) where
      -- a semicolon comes after it
      pub entry_more : (more : List (List ℕ)) → left ≡ codes ";" ∷ more → EntriesSoFar all more longer
      entry_more more e = record {
        front = so_far.front ++ part ∷ [];
        is = so_far.is ∙ ap (λ (w : List (List ℕ)). so_far.front ++ parts_of w) (is ∙ ap (λ (w : List (List ℕ)). part ++ w) e)
            ∙ ap (λ (p : List (List (List ℕ))). so_far.front ++ p) (part_at part more entry spells)
            ∙ sym (append_assoc so_far.front (part ∷ []) (parts_of more));
        spelled = rw added (spell_push entries so_far.front entry part so_far.spelled spells);
      }

      -- It is the last one.
      pub all_spelled : left ≡ [] → SpellEntries longer (parts_of all)
      all_spelled none =
          let parts : parts_of all ≡ so_far.front ++ part ∷ [] = so_far.is
          ∙ ap (λ (w : List (List ℕ)). so_far.front ++ parts_of w) (is ∙ ap (λ (w : List (List ℕ)). part ++ w) none ∙ append-nil part)
          ∙ ap (λ (p : List (List (List ℕ))). so_far.front ++ p) (part_last part entry spells) in
          rw (parts, added) (spell_push entries so_far.front entry part so_far.spelled spells)
