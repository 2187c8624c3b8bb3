-- The batches of a table leave each key with what the batches leave it with whose live keys the table has.
use Rattle.std.proofs.Common.{◌≡◌, ◌⊎◌, inl, inr, ℕ, suc, Bool, true, false, List, [], ◌∷◌, ◌++◌, length, map, filter, Option, Some, None, Contains, slice_index_or, sym, ap, subst, ◌∙◌, refl, arith}
use Rattle.std.specs.Str.{bytes_eq}
use Rattle.std.specs.Ordering.{nat_cmp, is_eq}
use Rattle.std.specs.declared.cmp.Ordering.TheVariants.{Less}
use Rattle.std.specs.Cmp.Lexicographic.{slice_cmp}
use Rattle.std.proofs.lemmas.Slice.Eq.{bytes_eq-Decides}
use Rattle.std.proofs.lemmas.Map.Text.{is_eq-slice_cmp}
use Rattle.std.proofs.lemmas.List.Elements.{Contains-append_cases, Contains-append_left, Contains-append_right}
use Rattle.wal_base.specs.declared.entry.Entry.{Entry}
use Rattle.batch_repr.specs.declared.batch.Batch.{Batch}
use Rattle.batch_repr.specs.Batches.{answer, entries_in, is_about}
use Rattle.text_lines.specs.Store.{Held, IsKeyBefore, AscendsByKey, IsStoreOf}
use Rattle.table_text.specs.Tables.{set_of, set_batches}
use Rattle.table_text.proofs.LeftBy.{left_by, left_by_parts, answer_of_all, entries_append}

pub entries_of_table : (number : ℕ) (live : List Held) → entries_in (set_batches number live) ≡ map set_of live
unfolding set_batches
entries_of_table number [] = refl
entries_of_table number (held ∷ later) = ap (λ (es : List Entry). set_of held ∷ es) (entries_of_table (suc number) later)

abbrev held : List ℕ → List ℕ → Held
held key value = record { key = key; value = value }

at_head : (x y : Held) → Contains (x ∷ []) y → x ≡ y
at_head x y (k, below, is) = let zero_is : k ≡ 0 = omega (arith, below) in subst (λ (n : ℕ). slice_index_or (x ∷ []) n y ≡ y) zero_is is

-- no key stands before itself
not_before : (key : List ℕ) → IsKeyBefore key key → ⊥
not_before key less =
    let equal : is_eq (slice_cmp nat_cmp key key) ≡ true = is_eq-slice_cmp key key ∙ (bytes_eq-Decides key key).1 refl in
    let no : is_eq Less ≡ true = sym (ap is_eq less) ∙ equal in cc

-- no later entry is about a key that stands before all later ones
none_about : (key : List ℕ) (later : List Held) → ((other : Held) → Contains later other → IsKeyBefore key other.key) → filter (is_about key) (map set_of later) ≡ []
none_about key [] before = refl
none_about key (h ∷ later) before = go (none_about key later (λ other in_later. before other (Contains-append_right (h ∷ []) later other in_later))) (bytes_eq h.key key) refl
  where
    go : filter (is_about key) (map set_of later) ≡ [] → (b : Bool) → bytes_eq h.key key ≡ b → filter (is_about key) (map set_of (h ∷ later)) ≡ []
    go rest true e =
        let same : h.key ≡ key = (bytes_eq-Decides h.key key).0 e in
        let first : IsKeyBefore key h.key = before h (Contains-append_left (h ∷ []) later h (0, omega arith, refl)) in
        absurd (not_before key (subst (λ (k : List ℕ). IsKeyBefore key k) same first))
    go rest false e = rw e rest

-- a key that the table has is left with its value
has_value : (live : List Held) (key value : List ℕ) → AscendsByKey live → Contains live (held key value) → left_by (map set_of live) key ≡ Some value
unfolding AscendsByKey
has_value [] key value ascends (k, below, is) = absurd (omega (arith, below))
has_value (h ∷ later) key value ascends there = go (has_value later key value ascends.1) (bytes_eq h.key key) refl
  where
    cases : Contains (h ∷ []) (held key value) ⊎ Contains later (held key value)
    cases = Contains-append_cases (h ∷ []) later (held key value) there

    go : (Contains later (held key value) → left_by (map set_of later) key ≡ Some value) → (b : Bool) → bytes_eq h.key key ≡ b
        → left_by (map set_of (h ∷ later)) key ≡ Some value
    go deeper true e =
        let same : h.key ≡ key = (bytes_eq-Decides h.key key).0 e in
        let none : filter (is_about key) (map set_of later) ≡ [] = none_about key later
        (λ other in_later. subst (λ (k : List ℕ). IsKeyBefore k other.key) same (ascends.0 other in_later)) in
        let one : left_by (map set_of (h ∷ later)) key ≡ Some h.value = rw (e, none) refl in
        elim cases [
          | inl here ↦ one ∙ ap (λ (x : Held). Some x.value) (at_head h (held key value) here)
          | inr in_later ↦ absurd (not_before key (subst (λ (k : List ℕ). IsKeyBefore k key) same (ascends.0 (held key value) in_later)))
        ]
    go deeper false e = elim cases [
      | inl here ↦
          let same : h.key ≡ key = ap (λ (x : Held). x.key) (at_head h (held key value) here) in
          let yes : bytes_eq h.key key ≡ true = (bytes_eq-Decides h.key key).1 same in
          let no : true ≡ false = sym yes ∙ e in cc
      | inr in_later ↦ rw e (deeper in_later)
    ]

-- a key that is left with a value is in the table
is_held : (live : List Held) (key value : List ℕ) → AscendsByKey live → left_by (map set_of live) key ≡ Some value → Contains live (held key value)
unfolding AscendsByKey
is_held [] key value ascends is = cc
is_held (h ∷ later) key value ascends is = go (is_held later key value ascends.1) (bytes_eq h.key key) refl
  where
    go : (left_by (map set_of later) key ≡ Some value → Contains later (held key value)) → (b : Bool) → bytes_eq h.key key ≡ b
        → Contains (h ∷ later) (held key value)
    go deeper true e =
        let same : h.key ≡ key = (bytes_eq-Decides h.key key).0 e in
        let none : filter (is_about key) (map set_of later) ≡ [] = none_about key later
        (λ other in_later. subst (λ (k : List ℕ). IsKeyBefore k other.key) same (ascends.0 other in_later)) in
        let one : left_by (map set_of (h ∷ later)) key ≡ Some h.value = rw (e, none) refl in
        let both : Some h.value ≡ Some value = sym one ∙ is in
        let value_is : h.value ≡ value = cc in
        let whole : h ≡ held key value = rw (sym same, sym value_is) refl in
        Contains-append_left (h ∷ []) later (held key value) (0, omega arith, whole)
    go deeper false e =
        let skip : left_by (map set_of (h ∷ later)) key ≡ left_by (map set_of later) key = rw e refl in
        Contains-append_right (h ∷ []) later (held key value) (deeper (sym skip ∙ is))

-- two answers that have the same values are the same
same_answer : (a b : Option (List ℕ)) → ((value : List ℕ) → a ≡ Some value → b ≡ Some value) → ((value : List ℕ) → b ≡ Some value → a ≡ Some value) → a ≡ b
same_answer (Some x) b there back = sym (there x refl)
same_answer None None there back = refl
same_answer None (Some y) there back = back y refl

pub stands_for_store : (base tail : List Batch) (live : List Held) (number : ℕ) (key : List ℕ) → IsStoreOf base live
    → answer (set_batches number live ++ tail) (length (set_batches number live ++ tail)) key ≡ answer (base ++ tail) (length (base ++ tail)) key
stands_for_store base tail live number key store =
    answer_of_all (set_batches number live ++ tail) key
    ∙ ap (λ (es : List Entry). left_by es key) (entries_append (set_batches number live) tail ∙ ap (λ (es : List Entry). es ++ entries_in tail) (entries_of_table number live))
    ∙ left_by_parts (map set_of live) (entries_in base) (entries_in tail) key same
    ∙ sym (ap (λ (es : List Entry). left_by es key) (entries_append base tail))
    ∙ sym (answer_of_all (base ++ tail) key)
  where
    same : left_by (map set_of live) key ≡ left_by (entries_in base) key
    same = same_answer (left_by (map set_of live) key) (left_by (entries_in base) key)
        (λ value is. sym (answer_of_all base key) ∙ (store.same key value).0 (is_held live key value store.ascends is))
        (λ value is. has_value live key value store.ascends ((store.same key value).1 (answer_of_all base key ∙ is)))
