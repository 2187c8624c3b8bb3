-- What the calls of a store ask for: the listings, then reads of tables, and then what recovery asks for.
use Rattle.std.proofs.Common.{◌≡◌, ◌+◌, ◌≤◌, ℕ, List, [], ◌∷◌, ◌++◌, sum_by, sym, subst, ap, ◌∙◌, refl, arith, append_assoc}
use Rattle.std.proofs.lemmas.List.Sums.{sum_by-append}
use Rattle.disk_face.specs.declared.Side.{Side}
use Rattle.disk_face.specs.declared.Side.TheVariants.{Primary, Secondary}
use Rattle.disk_face.specs.declared.SegName.{SegName}
use Rattle.disk_face.specs.declared.Listed.{Listed}
use Rattle.disk_face.specs.declared.TableListed.{TableListed}
use Rattle.disk_face.specs.View.{Call, tables_were_listed, DiskView, Makes}
use Rattle.disk_face.specs.Asked.{lists_in, listings, bytes_in, bytes_asked, length_in, length_listed, creates_in, creations}
use Rattle.disk_face.proofs.Laws.{makes_none, makes_further}
use Rattle.wal_recovery.specs.declared.listing.Sides.{Sides}
use Rattle.wal_recovery.specs.Asking.{both_listed, OnlyLists}
use Rattle.wal_recovery.specs.Sides.{ListsBoth, ReadsListed}
use Rattle.flush_table.specs.Asked.{lists_tables_in, table_listings, table_bytes_in, table_bytes_asked, table_length_in, table_length_among, table_length_listed, puts_in, table_puts, removes_in, removals, AsksOfStore, store_listed, ListsAllInTurn, ReadsNoneBelow, ReadsTablesFrom, ListsThenReads}
use Rattle.flush_table.proofs.Counting.{none_on_tables, none_of_reads}

-- ---- the listings

pub lists_tables : (tables : List TableListed) (old new : DiskView) → Makes (tables_were_listed tables ∷ []) old new → AsksOfStore old new
lists_tables tables old new makes = record {
  made = tables_were_listed tables ∷ [];
  makes = makes;
  tables_once = omega arith;
  sides_once = λ side. omega arith;
  segments = λ side name. omega arith;
  tables = λ upto. omega arith;
  creates = refl;
  puts = refl;
  removes = refl;
}

-- what is counted in a listing of the tables and in calls after it
after_tables : (count : Call → ℕ) (later : List Call) (tables : List TableListed)
    → sum_by count (later ++ tables_were_listed tables ∷ []) ≡ sum_by count later + (0 + count (tables_were_listed tables))
after_tables count later tables = sum_by-append count later (tables_were_listed tables ∷ [])

pub lists_then : (tables : List TableListed) (old mid new : DiskView) → Makes (tables_were_listed tables ∷ []) old mid → OnlyLists mid new
    → AsksOfStore old new
lists_then tables old mid new makes b = record {
  made = b.made ++ tables_were_listed tables ∷ [];
  makes = makes_further (tables_were_listed tables ∷ []) b.made old mid new makes b.makes;
  tables_once = omega (arith, after_tables lists_tables_in b.made tables, quiet_listings);
  sides_once = λ side. omega (arith, after_tables (lists_in side) b.made tables, b.lists side);
  segments = λ side name. omega (arith, after_tables (bytes_in side name) b.made tables, b.asked side name);
  tables = λ upto. omega (arith, after_tables (table_bytes_in upto) b.made tables, quiet_bytes upto);
  creates = omega (arith, after_tables creates_in b.made tables, b.creates);
  puts = omega (arith, after_tables puts_in b.made tables, quiet_puts);
  removes = omega (arith, after_tables removes_in b.made tables, quiet_removals);
}
  where
    quiet_listings : table_listings b.made ≡ 0
    quiet_listings = none_on_tables lists_tables_in (λ s n. refl) (λ s n l. refl) (λ i f. refl) (λ i a. refl) b.made b.tables

    quiet_bytes : (upto : ℕ) → table_bytes_asked upto b.made ≡ 0
    quiet_bytes upto = none_on_tables (table_bytes_in upto) (λ s n. refl) (λ s n l. refl) (λ i f. refl) (λ i a. refl) b.made b.tables

    quiet_puts : table_puts b.made ≡ 0
    quiet_puts = none_on_tables puts_in (λ s n. refl) (λ s n l. refl) (λ i f. refl) (λ i a. refl) b.made b.tables

    quiet_removals : removals b.made ≡ 0
    quiet_removals = none_on_tables removes_in (λ s n. refl) (λ s n l. refl) (λ i f. refl) (λ i a. refl) b.made b.tables

-- the listings, and reads of tables after them
pub begins_by : (least : ℕ) (tables : List TableListed) (sides : Sides) (old one two new : DiskView) → Makes (tables_were_listed tables ∷ []) old one
    → ListsBoth sides one two → ReadsTablesFrom least tables two new → ListsThenReads least tables sides.primary sides.secondary old new
begins_by least tables sides old one two new a b c = record {
  later = c.made;
  makes = makes_further (store_listed tables sides.primary sides.secondary) c.made old two new
      (makes_further (tables_were_listed tables ∷ []) (both_listed sides.primary sides.secondary) old one two a b) c.makes;
  reads = c.reads;
  below = c.below;
}

-- ---- and recovery after them

sum_of_three : (count : Call → ℕ) (a b c : List Call) → sum_by count (a ++ (b ++ c)) ≡ sum_by count a + (sum_by count b + sum_by count c)
sum_of_three count a b c = sum_by-append count a (b ++ c) ∙ ap (λ (n : ℕ). sum_by count a + n) (sum_by-append count b c)

module _ (tables : List TableListed) (ones others : List Listed) where
  abbrev first : List Call
  first = store_listed tables ones others

  each_once : (side : Side) → listings side first ≡ 1
  each_once Primary = refl
  each_once Secondary = refl

  tables_once_there : table_listings first ≡ 1
  tables_once_there = refl

  none_asked : (side : Side) (name : SegName) → bytes_asked side name first ≡ 0
  none_asked side name = refl

  no_table_asked : (upto : ℕ) → table_bytes_asked upto first ≡ 0
  no_table_asked upto = refl

  none_created : creations first ≡ 0
  none_created = refl

  none_put : table_puts first ≡ 0
  none_put = refl

  none_removed : removals first ≡ 0
  none_removed = refl

  listed_sides : (side : Side) (name : SegName) → length_listed side name (both_listed ones others) ≤ length_listed side name first
  listed_sides side name =
      omega (arith, sum_by-append (length_in side name) (both_listed ones others) (tables_were_listed tables ∷ []))

  listed_tables : (upto : ℕ) → table_length_among upto tables ≤ table_length_listed upto first
  listed_tables upto =
      omega (arith, sum_by-append (table_length_in upto) (both_listed ones others) (tables_were_listed tables ∷ []), last)
    where
      last : table_length_listed upto (tables_were_listed tables ∷ []) ≡ table_length_among upto tables
      last = let e : 0 + table_length_among upto tables ≡ table_length_among upto tables = omega arith in e

pub begins_then : (least wal : ℕ) (tables : List TableListed) (sides : Sides) (old mid new : DiskView)
    → ListsThenReads least tables sides.primary sides.secondary old mid → ReadsListed wal sides mid new → AsksOfStore old new
begins_then least wal tables sides old mid new b c = record {
  made = c.made ++ (b.later ++ store_listed tables sides.primary sides.secondary);
  makes = makes_further (b.later ++ store_listed tables sides.primary sides.secondary) c.made old mid new b.makes c.makes;
  tables_once = omega (
    arith,
    sum_of_three lists_tables_in c.made b.later (store_listed tables sides.primary sides.secondary),
    tables_once_there tables sides.primary sides.secondary,
    none_on_tables lists_tables_in (λ s n. refl) (λ s n l. refl) (λ i f. refl) (λ i a. refl) c.made c.tables,
    none_of_reads lists_tables_in (λ u l. refl) b.later b.reads.only,
  );
  sides_once = λ side. omega (
    arith,
    sum_of_three (lists_in side) c.made b.later (store_listed tables sides.primary sides.secondary),
    each_once tables sides.primary sides.secondary side,
    c.lists side,
    none_of_reads (lists_in side) (λ u l. refl) b.later b.reads.only,
  );
  segments = λ side name. omega (
    arith,
    sum_of_three (bytes_in side name) c.made b.later (store_listed tables sides.primary sides.secondary),
    sum_of_three (length_in side name) c.made b.later (store_listed tables sides.primary sides.secondary),
    none_asked tables sides.primary sides.secondary side name,
    listed_sides tables sides.primary sides.secondary side name,
    c.asked side name,
    none_of_reads (bytes_in side name) (λ u l. refl) b.later b.reads.only,
  );
  tables = λ upto. omega (
    arith,
    sum_of_three (table_bytes_in upto) c.made b.later (store_listed tables sides.primary sides.secondary),
    sum_of_three (table_length_in upto) c.made b.later (store_listed tables sides.primary sides.secondary),
    no_table_asked tables sides.primary sides.secondary upto,
    listed_tables tables sides.primary sides.secondary upto,
    none_on_tables (table_bytes_in upto) (λ s n. refl) (λ s n l. refl) (λ i f. refl) (λ i a. refl) c.made c.tables,
    b.reads.asked upto,
  );
  creates = omega (
    arith,
    sum_of_three creates_in c.made b.later (store_listed tables sides.primary sides.secondary),
    none_created tables sides.primary sides.secondary,
    c.creates,
    none_of_reads creates_in (λ u l. refl) b.later b.reads.only,
  );
  puts = omega (
    arith,
    sum_of_three puts_in c.made b.later (store_listed tables sides.primary sides.secondary),
    none_put tables sides.primary sides.secondary,
    none_on_tables puts_in (λ s n. refl) (λ s n l. refl) (λ i f. refl) (λ i a. refl) c.made c.tables,
    none_of_reads puts_in (λ u l. refl) b.later b.reads.only,
  );
  removes = omega (
    arith,
    sum_of_three removes_in c.made b.later (store_listed tables sides.primary sides.secondary),
    none_removed tables sides.primary sides.secondary,
    none_on_tables removes_in (λ s n. refl) (λ s n l. refl) (λ i f. refl) (λ i a. refl) c.made c.tables,
    none_of_reads removes_in (λ u l. refl) b.later b.reads.only,
  );
}

-- and nothing after them
pub begins_only : (least : ℕ) (tables : List TableListed) (sides : Sides) (old new : DiskView)
    → ListsThenReads least tables sides.primary sides.secondary old new → AsksOfStore old new
begins_only least tables sides old new b = begins_then least 0 tables sides old new new b (record {
  made = [];
  makes = makes_none new;
  lists = λ side. refl;
  listed = λ side name. refl;
  asked = λ side name. omega arith;
  below = λ side name less. refl;
  creates = refl;
  tables = tt;
})

pub lists_in_turn : (least wal : ℕ) (tables : List TableListed) (sides : Sides) (old mid new : DiskView)
    → ListsThenReads least tables sides.primary sides.secondary old mid → ReadsListed wal sides mid new
    → ListsAllInTurn tables sides.primary sides.secondary old new
lists_in_turn least wal tables sides old mid new b c = record {
  later = c.made ++ b.later;
  makes = subst (λ (l : List Call). Makes l old new) (sym (append_assoc c.made b.later (store_listed tables sides.primary sides.secondary)))
      (makes_further (b.later ++ store_listed tables sides.primary sides.secondary) c.made old mid new b.makes c.makes);
  no_more_tables = omega (
    arith,
    sum_by-append lists_tables_in c.made b.later,
    none_on_tables lists_tables_in (λ s n. refl) (λ s n l. refl) (λ i f. refl) (λ i a. refl) c.made c.tables,
    none_of_reads lists_tables_in (λ u l. refl) b.later b.reads.only,
  );
  no_more_sides = λ side. omega (
    arith,
    sum_by-append (lists_in side) c.made b.later,
    c.lists side,
    none_of_reads (lists_in side) (λ u l. refl) b.later b.reads.only,
  );
}

-- of what lies below the table that was found nothing is asked
pub reads_none_below : (least wal : ℕ) (tables : List TableListed) (sides : Sides) (old mid new : DiskView)
    → ListsThenReads least tables sides.primary sides.secondary old mid → ReadsListed wal sides mid new → ReadsNoneBelow wal least old new
reads_none_below least wal tables sides old mid new b c = record {
  made = c.made ++ (b.later ++ store_listed tables sides.primary sides.secondary);
  makes = makes_further (b.later ++ store_listed tables sides.primary sides.secondary) c.made old mid new b.makes c.makes;
  segments = λ side name less. omega (
    arith,
    sum_of_three (bytes_in side name) c.made b.later (store_listed tables sides.primary sides.secondary),
    none_asked tables sides.primary sides.secondary side name,
    c.below side name less,
    none_of_reads (bytes_in side name) (λ u l. refl) b.later b.reads.only,
  );
  tables = λ upto less. omega (
    arith,
    sum_of_three (table_bytes_in upto) c.made b.later (store_listed tables sides.primary sides.secondary),
    no_table_asked tables sides.primary sides.secondary upto,
    none_on_tables (table_bytes_in upto) (λ s n. refl) (λ s n l. refl) (λ i f. refl) (λ i a. refl) c.made c.tables,
    b.below upto less,
  );
}
