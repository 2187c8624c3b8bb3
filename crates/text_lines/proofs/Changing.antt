-- What is held changes by each entry as the store does, so that in the end it is what the store answers.
use Rattle.std.proofs.Common.{◌≡◌, ℕ, Bool, true, false, cond, List, [], ◌∷◌, length, filter, fold, Option, Some, None, Bor, bytes_eq, not, ◌&&◌, refl, sym, ap, ◌∙◌, arith}
use Rattle.std.specs.Prelude.{option_map, option_and_then}
use Rattle.std.specs.List.{last_or}
use Rattle.std.specs.Ordering.{nat_cmp, is_lt, is_le, is_eq, ordering_reverse}
use Rattle.std.specs.declared.cmp.Ordering.{Ordering}
use Rattle.std.specs.declared.cmp.Ordering.TheVariants.{Less, Equal, Greater}
use Rattle.std.specs.declared.ops.Bound.TheVariants.{Included, Excluded}
use Rattle.std.specs.Cmp.Lexicographic.{slice_cmp, nat_list_cmp_total, same_text}
use Rattle.std.specs.Map.{lookup}
use Rattle.std.specs.BTreeMap.{UpdatesBy}
use Rattle.std.specs.BTreeMap.Range.{range_contains, entries_between}
use Rattle.std.proofs.lemmas.Slice.Eq.{bytes_eq-Decides}
use Rattle.std.proofs.lemmas.List.{take_all}
use Rattle.std.proofs.lemmas.Map.Text.{btree_map_updates_str, is_eq-slice_cmp}
use Rattle.wal_base.specs.declared.entry.Entry.{Entry}
use Rattle.wal_base.specs.declared.entry.Entry.TheVariants.{Set, Delete, RangeDelete}
use Rattle.batch_repr.specs.declared.batch.Batch.{Batch}
use Rattle.batch_repr.specs.Batches.{is_within, is_about, value_left, entries_in, answer}
use Rattle.text_lines.specs.Holding.{Holding, held, changed, let_go}

-- where a key is looked up, what is there is read
read_cond : (b : Bool) (x y : Option (Bor (List ℕ))) → option_map (λ (v : Bor (List ℕ)). v.now) (cond b x y) ≡ cond b
    (option_map (λ v. v.now) x) (option_map (λ v. v.now) y)
read_cond true x y = refl
read_cond false x y = refl

-- one key is changed
pub held_updated : (key : List ℕ) (old new : Holding) (value : Option (Bor (List ℕ)))
    → UpdatesBy (λ x y. slice_cmp nat_cmp x.now y.now) (λ k. slice_cmp nat_cmp key k.now) old new value
    → (asked : List ℕ) → held new asked ≡ cond (bytes_eq key asked) (option_map (λ v. v.now) value) (held old asked)
held_updated key old new value updates asked =
    ap (option_map (λ v. v.now)) (btree_map_updates_str key old new value updates asked) ∙ read_cond (bytes_eq key asked) value _

-- a Set holds its key with its value
pub held_set : (own key value : List ℕ) (borrowed : Bor (List ℕ)) (entry : Entry) (old new : Holding)
    → UpdatesBy (λ x y. slice_cmp nat_cmp x.now y.now) (λ k. slice_cmp nat_cmp own k.now) old new (Some borrowed)
    → own ≡ key → borrowed.now ≡ value → entry ≡ Set key value → (asked : List ℕ) → held new asked ≡ changed asked (held old asked) entry
held_set own key value borrowed entry old new updates key_is value_is is asked =
    held_updated own old new (Some borrowed) updates asked ∙ ap (λ (k : List ℕ). cond (bytes_eq k asked) (Some borrowed.now) (held old asked)) key_is
    ∙ ap (λ (v : List ℕ). cond (bytes_eq key asked) (Some v) (held old asked)) value_is ∙ ap (changed asked (held old asked)) (sym is)

-- a Delete lets its key go
pub held_delete : (own key : List ℕ) (entry : Entry) (old new : Holding)
    → UpdatesBy (λ x y. slice_cmp nat_cmp x.now y.now) (λ k. slice_cmp nat_cmp own k.now) old new None
    → own ≡ key → entry ≡ Delete key → (asked : List ℕ) → held new asked ≡ changed asked (held old asked) entry
held_delete own key entry old new updates key_is is asked =
    held_updated own old new None updates asked ∙ ap (λ (k : List ℕ). cond (bytes_eq k asked) None (held old asked)) key_is
    ∙ ap (changed asked (held old asked)) (sym is)

-- ---- a range is let go

abbrev cmp : Bor (List ℕ) → Bor (List ℕ) → Ordering
cmp x y = slice_cmp nat_cmp x.now y.now

-- a key is within a range where it is between its bounds
within_bounds : (start end own : Bor (List ℕ)) → range_contains cmp (Included start) (Excluded end) own ≡ is_within start.now end.now own.now
within_bounds start end own =
    ap (λ (b : Bool). is_le (cmp start own) && b) (turned (cmp end own) ∙ ap is_lt (sym (nat_list_cmp_total.antisymm own.now end.now)))
  where
    turned : (o : Ordering) → not (is_le o) ≡ is_lt (ordering_reverse o)
    turned Less = refl
    turned Equal = refl
    turned Greater = refl

-- where nothing is between the bounds, no key within the range is held
none_within : (start end : Bor (List ℕ)) (key : List ℕ) (es : List (Bor (List ℕ) × Bor (List ℕ)))
    → filter (λ (e : Bor (List ℕ) × Bor (List ℕ)). range_contains cmp (Included start) (Excluded end) e.0) es ≡ []
    → is_within start.now end.now key ≡ true → lookup (λ (own : Bor (List ℕ)). is_eq (slice_cmp nat_cmp key own.now)) es ≡ None
none_within start end key [] none within = refl
none_within start end key (e ∷ es) none within =
    go (is_eq (slice_cmp nat_cmp key e.0.now)) (range_contains cmp (Included start) (Excluded end) e.0) refl refl none
    (λ rest. none_within start end key es rest within)
  where
    rest_between : List (Bor (List ℕ) × Bor (List ℕ))
    rest_between = filter (λ (e : Bor (List ℕ) × Bor (List ℕ)). range_contains cmp (Included start) (Excluded end) e.0) es

    rest_found : Option (Bor (List ℕ))
    rest_found = lookup (λ (own : Bor (List ℕ)). is_eq (slice_cmp nat_cmp key own.now)) es

    go : (b c : Bool) → is_eq (slice_cmp nat_cmp key e.0.now) ≡ b → range_contains cmp (Included start) (Excluded end) e.0 ≡ c
        → cond c (e ∷ rest_between) rest_between ≡ [] → (rest_between ≡ [] → rest_found ≡ None) → cond b (Some e.1) rest_found ≡ None
    go b true here between some rest = absurd cc
    go false false here apart none rest = rest none
    go true false here apart none rest =
        let same : key ≡ e.0.now = same_text key e.0.now (sym (sym (is_eq-slice_cmp key e.0.now) ∙ here)) in
        let clash : true ≡ false = sym within ∙ ap (is_within start.now end.now) same ∙ sym (within_bounds start end e.0) ∙ apart in cc

pub none_held : (start end : Bor (List ℕ)) (holding : Holding) (between : List (Bor (List ℕ) × Bor (List ℕ))) → between ≡ []
    → between ≡ entries_between cmp (Included start) (Excluded end) holding.entries
    → (key : List ℕ) → is_within start.now end.now key ≡ true → held holding key ≡ None
none_held start end holding between none is key within =
    ap (option_map (λ (v : Bor (List ℕ)). v.now)) (none_within start end key holding.entries (sym is ∙ none) within)

-- Where the start is not before the end, no key is within.
pub none_in_range : (start end key : List ℕ) → is_lt (slice_cmp nat_cmp start end) ≡ false → is_within start end key ≡ false
none_in_range start end key apart = go (slice_cmp nat_cmp start key) (slice_cmp nat_cmp key end) refl refl
  where
    go : (a b : Ordering) → slice_cmp nat_cmp start key ≡ a → slice_cmp nat_cmp key end ≡ b → is_le a && is_lt b ≡ false
    go Greater b one two = refl
    go Less Equal one two = refl
    go Less Greater one two = refl
    go Equal Equal one two = refl
    go Equal Greater one two = refl
    go Less Less one two =
        let clash : true ≡ false = sym (ap is_lt (nat_list_cmp_total.trans start key end one two)) ∙ apart in cc
    go Equal Less one two =
        let clash : true ≡ false = sym (ap is_lt (nat_list_cmp_total.congr start key end one ∙ two)) ∙ apart in cc

pub none_let_go : (start end key : List ℕ) (before : Option (List ℕ)) → is_lt (slice_cmp nat_cmp start end) ≡ false → before ≡ let_go start end key before
none_let_go start end key before apart = rw (none_in_range start end key apart) refl

-- a key within the range is taken out
pub one_let_go : (start end own : List ℕ) (old new : Holding)
    → UpdatesBy (λ x y. slice_cmp nat_cmp x.now y.now) (λ k. slice_cmp nat_cmp own k.now) old new None → is_within start end own ≡ true
    → (key : List ℕ) → let_go start end key (held new key) ≡ let_go start end key (held old key)
one_let_go start end own old new updates inside key = go (is_within start end key) (bytes_eq own key) refl refl (held_updated own old new None updates key)
  where
    go : (b c : Bool) → is_within start end key ≡ b → bytes_eq own key ≡ c → held new key ≡ cond c None (held old key)
        → cond b None (held new key) ≡ cond b None (held old key)
    go true c within same is = refl
    go false false apart other is = is
    go false true apart same is =
        let clash : true ≡ false = sym inside ∙ ap (is_within start end) ((bytes_eq-Decides own key).0 same) ∙ apart in cc

-- a RangeDelete lets its range go
pub held_range : (start end : List ℕ) (entry : Entry) (old new : Holding) → ((key : List ℕ) → held new key ≡ let_go start end key (held old key))
    → entry ≡ RangeDelete start end → (asked : List ℕ) → held new asked ≡ changed asked (held old asked) entry
held_range start end entry old new gone is asked = gone asked ∙ sym (ap (changed asked (held old asked)) is)

-- the last entry about a key decides
pub changed_last : (key : List ℕ) (last : Option Entry) (entries : List Entry)
    → fold (changed key) (option_and_then value_left last) entries ≡ option_and_then value_left (last_or last (filter (is_about key) entries))
changed_last key last [] = refl
changed_last key last (entry ∷ entries) = go (is_about key entry) refl (changed_last key (Some entry) entries) (changed_last key last entries)
  where
    go : (b : Bool) → is_about key entry ≡ b
        → fold (changed key) (value_left entry) entries ≡ option_and_then value_left (last_or (Some entry) (filter (is_about key) entries))
        → fold (changed key) (option_and_then value_left last) entries ≡ option_and_then value_left (last_or last (filter (is_about key) entries))
        → fold (changed key) (changed key (option_and_then value_left last) entry) entries ≡ option_and_then value_left
        (last_or last (filter (is_about key) (entry ∷ entries)))
    go true e by_entry by_last = rw e by_entry
    go false e by_entry by_last = rw e by_last

-- so all entries of the batches leave what the store answers
pub changed_answer : (key : List ℕ) (batches : List Batch) → fold (changed key) None (entries_in batches) ≡ answer batches (length batches) key
unfolding answer
changed_answer key batches =
    changed_last key None (entries_in batches)
    ∙ ap (λ (bs : List Batch). option_and_then value_left (last_or None (filter (is_about key) (entries_in bs))))
    (sym (take_all (length batches) batches (omega arith)))
