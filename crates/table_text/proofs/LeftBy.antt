-- What the last entry about a key leaves, of entries in two parts.
use Rattle.std.proofs.Common.{◌≡◌, ℕ, List, [], ◌∷◌, ◌++◌, length, filter, Option, Some, None, sym, ap, ◌∙◌, refl, arith, take_all}
use Rattle.std.specs.Prelude.{option_and_then}
use Rattle.std.specs.List.{last_or}
use Rattle.std.proofs.lemmas.List.Elements.{filter-append}
use Rattle.std.proofs.lemmas.Grind.{flat_map-append}
use Rattle.wal_base.specs.declared.entry.Entry.{Entry}
use Rattle.batch_repr.specs.declared.batch.Batch.{Batch}
use Rattle.batch_repr.specs.Batches.{answer, entries_in, is_about, value_left}

-- the value that entries leave a key with
abbrev pub left_by : List Entry → List ℕ → Option (List ℕ)
left_by entries key = option_and_then value_left (last_or None (filter (is_about key) entries))

last_append : (o : Option Entry) (xs ys : List Entry) → last_or o (xs ++ ys) ≡ last_or (last_or o xs) ys
last_append o [] ys = refl
last_append o (x ∷ xs) ys = last_append (Some x) xs ys

-- what comes after decides, where it says anything
after_decides : (o p : Option Entry) (ys : List Entry) → option_and_then value_left o ≡ option_and_then value_left p
    → option_and_then value_left (last_or o ys) ≡ option_and_then value_left (last_or p ys)
after_decides o p [] same = same
after_decides o p (y ∷ ys) same = refl

pub left_by_parts : (xs zs ys : List Entry) (key : List ℕ) → left_by xs key ≡ left_by zs key → left_by (xs ++ ys) key ≡ left_by (zs ++ ys) key
left_by_parts xs zs ys key same =
    ap (λ (l : List Entry). option_and_then value_left (last_or None l)) (filter-append (is_about key) xs ys)
    ∙ ap (option_and_then value_left) (last_append None (filter (is_about key) xs) (filter (is_about key) ys))
    ∙ after_decides (last_or None (filter (is_about key) xs)) (last_or None (filter (is_about key) zs)) (filter (is_about key) ys) same
    ∙ sym (ap (option_and_then value_left) (last_append None (filter (is_about key) zs) (filter (is_about key) ys)))
    ∙ sym (ap (λ (l : List Entry). option_and_then value_left (last_or None l)) (filter-append (is_about key) zs ys))

-- after all batches the last of all entries decides
pub answer_of_all : (batches : List Batch) (key : List ℕ) → answer batches (length batches) key ≡ left_by (entries_in batches) key
unfolding answer
answer_of_all batches key = ap (λ (bs : List Batch). left_by (entries_in bs) key) (take_all (length batches) batches (omega arith))

pub entries_append : (xs ys : List Batch) → entries_in (xs ++ ys) ≡ entries_in xs ++ entries_in ys
entries_append xs ys = flat_map-append (λ (batch : Batch). batch.entries) xs ys
