-- The first records of a table, of which the first one says how many follow.
use Rattle.std.proofs.Common.{◌≡◌, ℕ, zero, suc, ◌-◌, ◌<◌, ◌≤◌, ◌^◌, List, [], ◌∷◌, length, take, drop, map, sym, ap, ◌∙◌, refl, arith, take_all, length-take}
use Rattle.std.specs.Int.{w64, from_le_bytes}
use Rattle.std.proofs.lemmas.Nat.{from_le_bytes-to_le_bytes_8}
use Rattle.std.proofs.lemmas.List.{length-map}
use Rattle.batch_repr.specs.Written.{written}
use Rattle.text_lines.specs.Store.{Held}
use Rattle.table_text.specs.Tables.{Table, set_batches, batches_of, table_head, table_records}

pub as_many : (number : ℕ) (live : List Held) → length (set_batches number live) ≡ length live
unfolding set_batches
as_many number [] = refl
as_many number (held ∷ later) = ap suc (as_many (suc number) later)

records_many : (t : Table) → length (map written (batches_of t)) ≡ length t.live
records_many t = length-map (batches_of t) written ∙ as_many (t.next - length t.live) t.live

-- the heads say the same number of keys
pub same_count : (t u : Table) → length t.live < 2 ^ 64 → length u.live < 2 ^ 64 → table_head t ≡ table_head u → length t.live ≡ length u.live
same_count t u small small' same =
    sym (from_le_bytes-to_le_bytes_8 (length t.live) small) ∙ ap (λ (bytes : List ℕ). from_le_bytes w64 (drop 8 bytes)) same
    ∙ from_le_bytes-to_le_bytes_8 (length u.live) small'

pub front_of : {A : Type 0} (x y : A) (xs ys : List A) → x ∷ xs ≡ y ∷ ys → x ≡ y
front_of x y xs ys e = cc

pub rest_of : {A : Type 0} (x y : A) (xs ys : List A) → x ∷ xs ≡ y ∷ ys → xs ≡ ys
rest_of x y xs ys e = cc

pub no_other_table : (t u : Table) (n : ℕ) → length t.live < 2 ^ 64 → length u.live < 2 ^ 64 → take n (table_records t) ≡ table_records u
    → table_records u ≡ table_records t
no_other_table t u zero small small' same = cc
no_other_table t u (suc m) small small' same =
    let heads : table_head t ≡ table_head u = front_of (table_head t) (table_head u) _ _ same in
    let rests : take m (map written (batches_of t)) ≡ map written (batches_of u) = rest_of (table_head t) (table_head u) _ _ same in
    let count : length t.live ≡ length u.live = same_count t u small small' heads in
    let long : length (take m (map written (batches_of t))) ≡ length (map written (batches_of t)) =
    ap length rests ∙ records_many u ∙ sym count ∙ sym (records_many t) in
    let within : length (map written (batches_of t)) ≤ m = omega (arith, long, length-take m (map written (batches_of t))) in
    sym same ∙ ap (λ (rs : List (List ℕ)). table_head t ∷ rs) (take_all m (map written (batches_of t)) within)
