-- Calls that read tables of a list, no more of each than it is listed with.
use Rattle.std.proofs.Common.{◌≡◌, ◌+◌, ◌-◌, ◌≤◌, ◌<◌, ◌==◌, ℕ, suc, Bool, true, false, List, [], ◌∷◌, ◌++◌, length, take, drop, get_or, Contains, sym, subst, ap, ◌∙◌, refl, arith, drop-cons}
use native.Mathlib.Decide.{dec_le}
use Rattle.std.specs.Prelude.{if◌then◌else◌}
use Rattle.std.specs.List.{AllByRecursion}
use Rattle.std.proofs.lemmas.Bool.{eqb-true}
use Rattle.std.proofs.lemmas.List.{take-append-drop, length-drop, get_or-drop, get_or_default}
use Rattle.std.proofs.lemmas.List.Elements.{Contains-append_right}
use Rattle.std.proofs.lemmas.List.Sums.{sum_by-append, sum_by-cons}
use Rattle.disk_face.specs.declared.TableListed.{TableListed}
use Rattle.disk_face.specs.View.{Call, table_was_read, DiskView}
use Rattle.disk_face.specs.Listing.{AreTablesAscending}
use Rattle.disk_face.proofs.Laws.{makes_none, makes_further}
use Rattle.flush_table.specs.Asked.{table_bytes_in, length_if, table_length_among, IsTableRead, AreReadsOf, ReadsTables, ReadsTablesFrom}

if_less : (test : Bool) (m n : ℕ) → m ≤ n → (if test then m else 0) ≤ (if test then n else 0)
if_less true m n le = le
if_less false m n le = omega arith

sum_less : (m n : ℕ) → m ≤ n → 0 + m ≤ 0 + n
sum_less m n le = omega (arith, le)

reads_append : (front back : List Call) → AllByRecursion IsTableRead front → AllByRecursion IsTableRead back → AllByRecursion IsTableRead (front ++ back)
reads_append [] back a b = b
reads_append (call ∷ front) back a b = (a.0, reads_append front back a.1 b)

pub reads_none : (tables : List TableListed) (v : DiskView) → ReadsTables tables v v
reads_none tables v = record { made = []; makes = makes_none v; reads = record { only = tt; asked = λ upto. omega arith } }

-- one read of a table, of no more bytes than it has
pub reads_one : (listed : TableListed) (len : ℕ) (old new : DiskView) → new.calls ≡ table_was_read listed.upto len ∷ old.calls → len ≤ listed.len
    → ReadsTables (listed ∷ []) old new
reads_one listed len old new is le = record {
  made = table_was_read listed.upto len ∷ [];
  makes = is;
  reads = record {
    only = (tt, tt);
    asked = λ upto. sum_less (if upto == listed.upto then len else 0) (length_if upto listed) (if_less (upto == listed.upto) len listed.len le);
  };
}

one_among : (upto : ℕ) (listed : TableListed) → table_length_among upto (listed ∷ []) ≡ length_if upto listed
one_among upto listed = let e : 0 + length_if upto listed ≡ length_if upto listed = omega arith in e

-- a table before those that were read
pub reads_before : (listed : TableListed) (tables : List TableListed) (old mid new : DiskView) → ReadsTables tables old mid
    → ReadsTables (listed ∷ []) mid new → ReadsTables (listed ∷ tables) old new
reads_before listed tables old mid new a b = record {
  made = b.made ++ a.made;
  makes = makes_further a.made b.made old mid new a.makes b.makes;
  reads = record {
    only = reads_append b.made a.made b.reads.only a.reads.only;
    asked = λ upto. omega (
      arith,
      sum_by-append (table_bytes_in upto) b.made a.made,
      sum_by-cons (length_if upto) listed tables,
      one_among upto listed,
      a.reads.asked upto,
      b.reads.asked upto,
    );
  };
}

-- tables before those that were read, of which nothing is asked
reads_all : (tables : List TableListed) (at : ℕ) (calls : List Call) → AreReadsOf (drop at tables) calls → AreReadsOf tables calls
reads_all tables at calls a = record {
  only = a.only;
  asked = λ upto. omega (
    arith,
    sum_by-append (length_if upto) (take at tables) (drop at tables),
    ap (table_length_among upto) (take-append-drop at tables),
    a.asked upto,
  );
}

-- from a place on, and so of all
pub reads_of_all : (tables : List TableListed) (at : ℕ) (old new : DiskView) → ReadsTables (drop at tables) old new → ReadsTablesFrom 0 tables old new
reads_of_all tables at old new a = record {
  made = a.made;
  makes = a.makes;
  reads = reads_all tables at a.made a.reads;
  below = λ upto low. absurd (omega (arith, low));
}

-- the table before a place, and those from there on
pub cut_down : (tables : List TableListed) (at : ℕ) (d : TableListed) → 0 < at → at ≤ length tables
    → drop (at - 1) tables ≡ get_or tables (at - 1) d ∷ drop at tables
cut_down tables at d some within =
    drop-cons tables (at - 1) d (omega (arith, some, within))
    ∙ ap (λ (n : ℕ). get_or tables (at - 1) d ∷ drop n tables) (let e : suc (at - 1) ≡ at = omega (arith, some) in e)

pub reads_down : (tables : List TableListed) (at : ℕ) (d : TableListed) (old mid new : DiskView) → 0 < at → at ≤ length tables
    → ReadsTables (drop at tables) old mid → ReadsTables (get_or tables (at - 1) d ∷ []) mid new → ReadsTables (drop (at - 1) tables) old new
reads_down tables at d old mid new some within a b =
    subst (λ (l : List TableListed). ReadsTables l old new) (sym (cut_down tables at d some within))
    (reads_before (get_or tables (at - 1) d) (drop at tables) old mid new a b)

-- ---- no table below the one that was found

-- a table below all of these is not among them
none_among : (upto least : ℕ) (tables : List TableListed) → ((item : TableListed) → Contains tables item → least ≤ item.upto) → upto < least
    → table_length_among upto tables ≡ 0
none_among upto least [] from low = refl
none_among upto least (item ∷ tables) from low =
    sum_by-cons (length_if upto) item tables ∙ omega (
      arith,
      other (upto == item.upto) refl,
      none_among upto least tables (λ x at. from x (Contains-append_right (item ∷ []) tables x at)) low,
    )
  where
    other : (same : Bool) → (upto == item.upto) ≡ same → length_if upto item ≡ 0
    other true is = absurd (omega (arith, low, from item (0, omega arith, refl), eqb-true upto item.upto is))
    other false is = ap (λ (b : Bool). if b then item.len else 0) is

-- of reads from a place on, none is of a table below the one there
pub reads_from : (tables : List TableListed) (at : ℕ) (d : TableListed) (old new : DiskView) → AreTablesAscending tables → at < length tables
    → ReadsTables (drop at tables) old new → ReadsTablesFrom (get_or tables at d).upto tables old new
reads_from tables at d old new up lt a = record {
  made = a.made;
  makes = a.makes;
  reads = reads_all tables at a.made a.reads;
  below = λ upto low. omega (arith, a.reads.asked upto, none_among upto (get_or tables at d).upto (drop at tables) rising low);
}
  where
    rising : (item : TableListed) → Contains (drop at tables) item → (get_or tables at d).upto ≤ item.upto
    rising item (k, less, is) =
        let there : get_or tables (at + k) item ≡ item = sym (get_or-drop at tables k item) ∙ is in
        let same : get_or tables at d ≡ get_or tables at item = get_or_default tables at d item lt in
        elim (dec_le k 0) [
          | yes first ↦ omega (
            arith,
            ap (λ (x : TableListed). x.upto) same,
            ap (λ (n : ℕ). (get_or tables n item).upto) (let e : at + k ≡ at = omega (arith, first) in e),
            ap (λ (x : TableListed). x.upto) there,
          )
          | no behind ↦ omega (
            arith,
            ap (λ (x : TableListed). x.upto) same,
            up at (at + k) item (omega (arith, behind)) (omega (arith, less, length-drop at tables, lt)),
            ap (λ (x : TableListed). x.upto) there,
          )
        ]
