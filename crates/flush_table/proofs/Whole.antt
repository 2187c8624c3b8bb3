-- The table that is used: a whole one is listed, and of the listed ones the greatest that is whole is found.
use Rattle.std.proofs.Common.{◌≡◌, ◌⊎◌, inl, inr, ◌≤◌, ◌<◌, ℕ, List, [], ◌∷◌, ◌++◌, length, take, drop, get_or, Option, Some, None, Contains, sym, subst, ap, ◌∙◌, refl, arith}
use Rattle.std.proofs.lemmas.List.{take-append-drop}
use Rattle.std.proofs.lemmas.List.Elements.{Contains-append_right, Contains-get_or}
use Rattle.wal_base.proofs.Laws.{within_cases, within_head}
use Rattle.disk_face.specs.declared.TableListed.{TableListed}
use Rattle.disk_face.specs.View.{table, File, Files, Dirs}
use Rattle.disk_face.specs.Image.{as_read, dirs_as_read}
use Rattle.disk_face.specs.Listing.{AreTablesAscending, IsTableNumber, HasTable, IsTableListing}
use Rattle.disk_face.proofs.Laws.{AllPairs-head, AllPairs-tail}
use Rattle.table_text.specs.declared.reading.TableRead.{TableRead}
use Rattle.flush_table.specs.Stores.{HasWholeTable, IsUsed}
use Rattle.flush_table.specs.Reading.{ReadsAt, TellsTableAt, NoneWhole, UsesRead}

-- ---- one table

-- a table that reads is there
pub table_read : (upto : ℕ) (file : Option File) (bytes : List ℕ) → as_read (table upto) file ≡ Some bytes → (f : File) × (file ≡ Some f)
table_read upto None bytes is = absurd (let no : None ≡ Some bytes = is in cc)
table_read upto (Some f) bytes is = (f, refl)

-- a listed one reads
pub table_there : (files : Files) (upto len : ℕ) (has : HasTable files upto len) → dirs_as_read files (table upto) ≡ Some has.0.reads
table_there files upto len has = ap (as_read (table upto)) has.1

-- what a listed table is told to read as, where the files are the same
pub told_at : (old now : Files) (tables : List TableListed) (at : ℕ) (d : TableListed) → now ≡ old → at < length tables → IsTableListing old tables
    → (found : Option TableRead)
    → (HasTable now (get_or tables at d).upto (get_or tables at d).len → TellsTableAt (dirs_as_read now) (get_or tables at d).upto found)
    → TellsTableAt (dirs_as_read old) (get_or tables at d).upto found
told_at old now tables at d same lt listing found told =
    let x = get_or tables at d in
    let there : HasTable old x.upto x.len = ((listing x).0 (Contains-get_or tables at d lt)).1 in
    subst (λ (fs : Files). TellsTableAt (dirs_as_read fs) x.upto found) same (told (subst (λ (fs : Files). HasTable fs x.upto x.len) (sym same) there))

-- ---- all tables

abbrev IsBelow : TableListed → TableListed → Type 0
IsBelow a b = a.upto < b.upto

-- of an ascending list each item is up to this one, or stands behind it
up_to_or_behind : (front : List TableListed) (x : TableListed) (back : List TableListed) → AreTablesAscending (front ++ x ∷ back) → (item : TableListed)
    → Contains (front ++ x ∷ back) item → (item.upto ≤ x.upto) ⊎ Contains back item
up_to_or_behind [] x back up item at = elim (within_cases x back item at) [
  | inl e ↦ inl (omega (arith, ap (λ (y : TableListed). y.upto) e))
  | inr later ↦ inr later
]
up_to_or_behind (y ∷ front) x back up item at = elim (within_cases y (front ++ x ∷ back) item at) [
  | inl e ↦
      let there = Contains-append_right front (x ∷ back) x (within_head x back) in
      let below : y.upto < x.upto = subst (λ (z : TableListed). y.upto < z.upto) there.2
      (AllPairs-head IsBelow y (front ++ x ∷ back) up there.0 x there.1) in
      inl (omega (arith, ap (λ (z : TableListed). z.upto) e, below))
  | inr later ↦ up_to_or_behind front x back (AllPairs-tail IsBelow y (front ++ x ∷ back) up) item later
]

module _ (files : Files) (tables : List TableListed) (listing : IsTableListing files tables) where
  -- a whole table is listed
  whole_listed : (upto : ℕ) → HasWholeTable (dirs_as_read files) upto → (item : TableListed) × Contains tables item × (item.upto ≡ upto)
  whole_listed upto (named, (bytes, there, whole)) =
      let f = table_read upto (files (table upto)) bytes there in
      let item : TableListed = record { upto = upto; len = length f.0.reads } in
      (item, (listing item).1 (named, (f.0, f.1, refl)), refl)

  -- where none of them is whole, none is
  pub none_whole : NoneWhole (dirs_as_read files) tables → IsUsed (dirs_as_read files) None
  none_whole none upto whole =
      let i = whole_listed upto whole in
      none i.0 i.1 (subst (HasWholeTable (dirs_as_read files)) (sym i.2) whole)

  -- the one at a place, where none behind it is whole
  pub uses_at : AreTablesAscending tables → (at : ℕ) (x : TableListed) (behind : List TableListed) (read : TableRead) → drop at tables ≡ x ∷ behind
      → IsTableNumber x.upto → ReadsAt (dirs_as_read files) x.upto read → NoneWhole (dirs_as_read files) behind
      → UsesRead (dirs_as_read files) (record { upto = x.upto; read = read })
  uses_at up at x behind read cut named reads none = record {
    table = reads.is.table;
    uses = record { named = named; bytes = reads.bytes; there = reads.there; reads = reads.is.reads; greatest = greatest };
    tells = reads.is.tells;
  }
    where
      whole_cut : take at tables ++ x ∷ behind ≡ tables
      whole_cut = ap (λ (l : List TableListed). take at tables ++ l) (sym cut) ∙ take-append-drop at tables

      greatest : (other : ℕ) → HasWholeTable (dirs_as_read files) other → other ≤ x.upto
      greatest other whole =
          let i = whole_listed other whole in
          elim (up_to_or_behind (take at tables) x behind (subst AreTablesAscending (sym whole_cut) up) i.0
          (subst (λ (l : List TableListed). Contains l i.0) (sym whole_cut) i.1)) [
            | inl le ↦ omega (arith, le, i.2)
            | inr later ↦ absurd (none i.0 later (subst (HasWholeTable (dirs_as_read files)) (sym i.2) whole))
          ]

-- one table more that is not whole
pub none_more : (dirs : Dirs) (items : List TableListed) (x : TableListed) (behind : List TableListed) → items ≡ x ∷ behind
    → (HasWholeTable dirs x.upto → ⊥) → NoneWhole dirs behind → NoneWhole dirs items
none_more dirs items x behind cut not none item there whole =
    elim (within_cases x behind item (subst (λ (l : List TableListed). Contains l item) cut there)) [
      | inl e ↦ not (subst (HasWholeTable dirs) (ap (λ (y : TableListed). y.upto) (sym e)) whole)
      | inr later ↦ none item later whole
    ]
