-- The part of the words up to the next semicolon, and the entry that it spells.
use Rattle.std.proofs.Common.{◌≡◌, ℕ, Bool, true, false, List, [], ◌∷◌, ◌++◌, get_or, drop, refl, sym, ap, ◌∙◌, arith, subst}
use Rattle.std.specs.Prelude.{All, codes}
use Rattle.std.specs.List.{slice_split, onto_first}
use Rattle.std.specs.Str.{bytes_eq}
use Rattle.std.proofs.lemmas.Bool.{false_from_ne_true}
use Rattle.std.proofs.lemmas.List.Elements.{All-nil, All-cons}
use Rattle.std.proofs.lemmas.List.Splits.{slice_split_at, slice_split_none, slice_split-cons_yes, slice_split-cons_no}
use Rattle.std.proofs.lemmas.Slice.Eq.{bytes_eq-Decides}
use Rattle.wal_base.specs.declared.entry.Entry.{Entry}
use Rattle.wal_base.specs.declared.entry.Entry.TheVariants.{Set, Delete, Note, RangeDelete}
use Rattle.line_words.specs.Words.{IsWord}
use Rattle.session_script.specs.Words.{parts_of, SpellsOneEntry, SpellEntries}
use Rattle.session_script.proofs.OneScript.{spells_one}

abbrev pub is_semicolon : List ℕ → Bool
is_semicolon word = bytes_eq word (codes ";")

-- what is spelled is no semicolon
word_is_none : (word : List ℕ) → IsWord word → is_semicolon word ≡ false
word_is_none word w = false_from_ne_true (is_semicolon word) (λ yes.
    let is : word ≡ codes ";" = (bytes_eq-Decides word (codes ";")).0 yes in
    let byte = (subst IsWord is w).1 0 0 (omega arith) in byte.2 refl)

pub has_none : (entry : Entry) (part : List (List ℕ)) → SpellsOneEntry entry part → All (λ word. is_semicolon word ≡ false) part
has_none (Set key value) part s = subst (All (λ word. is_semicolon word ≡ false)) (sym s.0)
    (All-cons (λ word. is_semicolon word ≡ false) (codes "set") (key ∷ value ∷ []) refl
    (All-cons (λ word. is_semicolon word ≡ false) key (value ∷ []) (word_is_none key s.1)
    (All-cons (λ word. is_semicolon word ≡ false) value [] (word_is_none value s.2) (All-nil (λ word. is_semicolon word ≡ false)))))
has_none (Delete key) part s = subst (All (λ word. is_semicolon word ≡ false)) (sym s.0)
    (All-cons (λ word. is_semicolon word ≡ false) (codes "del") (key ∷ []) refl
    (All-cons (λ word. is_semicolon word ≡ false) key [] (word_is_none key s.1) (All-nil (λ word. is_semicolon word ≡ false))))
has_none (Note text) part s = subst (All (λ word. is_semicolon word ≡ false)) (sym s.0)
    (All-cons (λ word. is_semicolon word ≡ false) (codes "note") (text ∷ []) refl
    (All-cons (λ word. is_semicolon word ≡ false) text [] (word_is_none text s.1) (All-nil (λ word. is_semicolon word ≡ false))))
has_none (RangeDelete start end) part s = subst (All (λ word. is_semicolon word ≡ false)) (sym s.0)
    (All-cons (λ word. is_semicolon word ≡ false) (codes "rdel") (start ∷ end ∷ []) refl
    (All-cons (λ word. is_semicolon word ≡ false) start (end ∷ []) (word_is_none start s.1)
    (All-cons (λ word. is_semicolon word ≡ false) end [] (word_is_none end s.2) (All-nil (λ word. is_semicolon word ≡ false)))))

pub part_at : (part more : List (List ℕ)) (entry : Entry) → SpellsOneEntry entry part → parts_of (part ++ codes ";" ∷ more) ≡ part ∷ parts_of more
unfolding parts_of
part_at part more entry s = slice_split_at is_semicolon part (codes ";") more (has_none entry part s) refl

pub part_last : (part : List (List ℕ)) (entry : Entry) → SpellsOneEntry entry part → parts_of part ≡ part ∷ []
unfolding parts_of
part_last part entry s = slice_split_none is_semicolon part (has_none entry part s)

-- the first part of words, and what stands after it
pub record Parted (words : List (List ℕ)) : Type 0 where
  pub first : List (List ℕ)
  pub others : List (List (List ℕ))
  pub after : List (List ℕ)
  pub parts : parts_of words ≡ first ∷ others
  pub whole : words ≡ first ++ after
  pub ends : (word : List ℕ) (rest : List (List ℕ)) → after ≡ word ∷ rest → is_semicolon word ≡ true

pub parted : (words : List (List ℕ)) → Parted words
unfolding parts_of
parted [] = record { first = []; others = []; after = []; parts = refl; whole = refl; ends = λ word rest e. absurd cc }
parted (word ∷ words) = by_test (parted words) (is_semicolon word) refl
  where
    by_test : Parted words → (b : Bool) → is_semicolon word ≡ b → Parted (word ∷ words)
    by_test p true e = record {
      first = [];
      others = slice_split is_semicolon words;
      after = word ∷ words;
      parts = slice_split-cons_yes is_semicolon word words e;
      whole = refl;
      ends = λ w rest is. let same : word ≡ w = cc in ap is_semicolon (sym same) ∙ e;
    }
    by_test p false e = record {
      first = word ∷ p.first;
      others = p.others;
      after = p.after;
      parts = slice_split-cons_no is_semicolon word words e ∙ ap (onto_first word) p.parts;
      whole = ap (λ (ws : List (List ℕ)). word ∷ ws) p.whole;
      ends = p.ends;
    }

-- the first byte of the first word
abbrev lead : List (List ℕ) → ℕ
lead words = get_or (get_or words 0 []) 0 0

module _ (words a b c d : List (List ℕ)) (e : words ≡ a ++ b) (f : words ≡ c ++ d) where
  -- the same words, as both spellings begin them
  joined : (one other : List (List ℕ)) → a ≡ one → c ≡ other → one ++ b ≡ other ++ d
  joined one other s t = ap (λ (u : List (List ℕ)). u ++ b) (sym s) ∙ sym e ∙ f ∙ ap (λ (u : List (List ℕ)). u ++ d) t

  -- Two fronts of the same words that spell entries are one.
  pub one_front : (x y : Entry) → SpellsOneEntry x a → SpellsOneEntry y c → (a ≡ c) × (b ≡ d)
  one_front (Set k v) (Set l w) s t = let g = joined (codes "set" ∷ k ∷ v ∷ []) (codes "set" ∷ l ∷ w ∷ []) s.0 t.0 in (
    s.0 ∙ (λ i. codes "set" ∷ ap (λ (u : List (List ℕ)). get_or u 1 []) g i ∷ ap (λ (u : List (List ℕ)). get_or u 2 []) g i ∷ [])
        ∙ sym t.0,
    ap (λ (u : List (List ℕ)). drop 3 u) g,
  )
  one_front (Set k v) (Delete l) s t = let g = joined (codes "set" ∷ k ∷ v ∷ []) (codes "del" ∷ l ∷ []) s.0 t.0 in absurd (omega (arith, ap lead g))
  one_front (Set k v) (Note l) s t = let g = joined (codes "set" ∷ k ∷ v ∷ []) (codes "note" ∷ l ∷ []) s.0 t.0 in absurd (omega (arith, ap lead g))
  one_front (Delete k) (Set l w) s t = let g = joined (codes "del" ∷ k ∷ []) (codes "set" ∷ l ∷ w ∷ []) s.0 t.0 in absurd (omega (arith, ap lead g))
  one_front (Delete k) (Delete l) s t = let g = joined (codes "del" ∷ k ∷ []) (codes "del" ∷ l ∷ []) s.0 t.0 in
      (s.0 ∙ (λ i. codes "del" ∷ ap (λ (u : List (List ℕ)). get_or u 1 []) g i ∷ []) ∙ sym t.0, ap (λ (u : List (List ℕ)). drop 2 u) g)
  one_front (Delete k) (Note l) s t = let g = joined (codes "del" ∷ k ∷ []) (codes "note" ∷ l ∷ []) s.0 t.0 in absurd (omega (arith, ap lead g))
  one_front (Note k) (Set l w) s t = let g = joined (codes "note" ∷ k ∷ []) (codes "set" ∷ l ∷ w ∷ []) s.0 t.0 in absurd (omega (arith, ap lead g))
  one_front (Note k) (Delete l) s t = let g = joined (codes "note" ∷ k ∷ []) (codes "del" ∷ l ∷ []) s.0 t.0 in absurd (omega (arith, ap lead g))
  one_front (Note k) (Note l) s t = let g = joined (codes "note" ∷ k ∷ []) (codes "note" ∷ l ∷ []) s.0 t.0 in
      (s.0 ∙ (λ i. codes "note" ∷ ap (λ (u : List (List ℕ)). get_or u 1 []) g i ∷ []) ∙ sym t.0, ap (λ (u : List (List ℕ)). drop 2 u) g)
  one_front (Set k v) (RangeDelete l w) s t = let g = joined (codes "set" ∷ k ∷ v ∷ []) (codes "rdel" ∷ l ∷ w ∷ []) s.0 t.0 in absurd (omega (arith, ap lead g))
  one_front (Delete k) (RangeDelete l w) s t = let g = joined (codes "del" ∷ k ∷ []) (codes "rdel" ∷ l ∷ w ∷ []) s.0 t.0 in absurd (omega (arith, ap lead g))
  one_front (Note k) (RangeDelete l w) s t = let g = joined (codes "note" ∷ k ∷ []) (codes "rdel" ∷ l ∷ w ∷ []) s.0 t.0 in absurd (omega (arith, ap lead g))
  one_front (RangeDelete k v) (Set l w) s t = let g = joined (codes "rdel" ∷ k ∷ v ∷ []) (codes "set" ∷ l ∷ w ∷ []) s.0 t.0 in absurd (omega (arith, ap lead g))
  one_front (RangeDelete k v) (Delete l) s t = let g = joined (codes "rdel" ∷ k ∷ v ∷ []) (codes "del" ∷ l ∷ []) s.0 t.0 in absurd (omega (arith, ap lead g))
  one_front (RangeDelete k v) (Note l) s t = let g = joined (codes "rdel" ∷ k ∷ v ∷ []) (codes "note" ∷ l ∷ []) s.0 t.0 in absurd (omega (arith, ap lead g))
  one_front (RangeDelete k v) (RangeDelete l w) s t = let g = joined (codes "rdel" ∷ k ∷ v ∷ []) (codes "rdel" ∷ l ∷ w ∷ []) s.0 t.0 in (
    s.0 ∙ (λ i. codes "rdel" ∷ ap (λ (u : List (List ℕ)). get_or u 1 []) g i ∷ ap (λ (u : List (List ℕ)). get_or u 2 []) g i ∷ [])
        ∙ sym t.0,
    ap (λ (u : List (List ℕ)). drop 3 u) g,
  )

-- an entry more, at the end
pub spell_push : (entries : List Entry) (parts : List (List (List ℕ))) (entry : Entry) (part : List (List ℕ)) → SpellEntries entries parts
    → SpellsOneEntry entry part → SpellEntries (entries ++ entry ∷ []) (parts ++ part ∷ [])
unfolding SpellEntries
spell_push [] [] entry part s e = (e, tt)
spell_push [] (p ∷ parts) entry part s e = absurd s
spell_push (x ∷ entries) [] entry part s e = absurd s
spell_push (x ∷ entries) (p ∷ parts) entry part s e = (s.0, spell_push entries parts entry part s.1 e)

-- the entry of a part that comes after others
pub record SpelledAfter (all entries : List Entry) (part : List (List ℕ)) : Type 0 where
  pub entry : Entry
  pub more : List Entry
  pub is : all ≡ entries ++ entry ∷ more
  pub spells : SpellsOneEntry entry part

pub spelled_after : (all entries : List Entry) (parts others : List (List (List ℕ))) (part : List (List ℕ)) → SpellEntries entries parts
    → SpellEntries all (parts ++ part ∷ others) → SpelledAfter all entries part
unfolding SpellEntries
spelled_after [] [] [] others part s a = absurd a
spelled_after (x ∷ all) [] [] others part s a = record { entry = x; more = all; is = refl; spells = a.0 }
spelled_after all [] (p ∷ parts) others part s a = absurd s
spelled_after all (y ∷ entries) [] others part s a = absurd s
spelled_after [] (y ∷ entries) (p ∷ parts) others part s a = absurd a
spelled_after (x ∷ all) (y ∷ entries) (p ∷ parts) others part s a =
    let r = spelled_after all entries parts others part s.1 a.1 in record {
      entry = r.entry;
      more = r.more;
      is = λ i. spells_one p x y a.0 s.0 i ∷ r.is i;
      spells = r.spells;
    }
