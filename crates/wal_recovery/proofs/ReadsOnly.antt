-- Calls that read the segments of a row, and a listing before them.
use Rattle.std.proofs.Common.{◌≡◌, inl, inr, ◌+◌, ◌≤◌, ◌<◌, ◌&&◌, ◌==◌, ℕ, Bool, true, false, List, [], ◌∷◌, ◌++◌, length, take, drop, get_or, Contains, sym, subst, ap, ◌∙◌, refl, arith}
use Rattle.std.specs.Prelude.{if◌then◌else◌}
use Rattle.std.proofs.lemmas.Bool.{eqb-true}
use Rattle.std.proofs.lemmas.List.{append-nil, take_more, take-append-drop}
use Rattle.std.proofs.lemmas.List.Elements.{Contains-append_right}
use Rattle.std.proofs.lemmas.List.Concat.{flat_map-append}
use Rattle.std.proofs.lemmas.List.Sums.{sum_by-append, sum_by-cons}
use Rattle.disk_face.specs.declared.Side.{Side}
use Rattle.disk_face.specs.declared.Side.TheVariants.{Primary, Secondary}
use Rattle.disk_face.specs.declared.SegName.{SegName}
use Rattle.disk_face.specs.declared.OpId.{OpId}
use Rattle.disk_face.specs.declared.Progress.{Progress}
use Rattle.disk_face.specs.declared.Listed.{Listed}
use Rattle.disk_face.specs.View.{Call, was_listed, was_read, was_started, was_polled, Flight, DiskView, Makes, side_eq}
use Rattle.disk_face.specs.Asked.{name_eq, listings, bytes_asked, length_listed, length_among, creates}
use Rattle.disk_face.proofs.Laws.{creations_further, makes_none, makes_further, listings-append, bytes_asked-append, length_listed-append}
use Rattle.wal_recovery.specs.declared.listing.Found.{Found}
use Rattle.wal_recovery.specs.declared.wals.FoundWal.{FoundWal}
use Rattle.wal_recovery.specs.Rows.{item_of, Takes, Weaves, Groups}
use Rattle.wal_recovery.proofs.AtWal.{StandsAt}
use Rattle.wal_recovery.specs.Asking.{AreNotOnTables, AsksOnce, both_listed, ListsInTurn, OnlyLists, length_in_row, ReadsOnly, found_in}
use Rattle.wal_recovery.specs.declared.listing.Sides.{Sides}
use Rattle.wal_recovery.specs.Sides.{ListsBoth, IsAsLongAsListed, HasNoByteBelow, ReadsListed}

-- how many bytes of this segment a segment of a row has
abbrev bytes_here : Side → SegName → Found → ℕ
bytes_here side name f = if side_eq side f.side && name_eq name f.name then f.len else 0

bytes_append : (side : Side) (name : SegName) (front back : List Found)
    → length_in_row side name (front ++ back) ≡ length_in_row side name front + length_in_row side name back
bytes_append side name front back = sum_by-append (bytes_here side name) front back

pub not_on_tables : (front back : List Call) → AreNotOnTables front → AreNotOnTables back → AreNotOnTables (front ++ back)
not_on_tables [] back a b = b
not_on_tables (call ∷ front) back a b = (a.0, not_on_tables front back a.1 b)

-- ---- calls that list nothing

pub reads_none : (row : List Found) (v : DiskView) → ReadsOnly row v v
reads_none row v = record {
  made = [];
  makes = makes_none v;
  lists = λ side. refl;
  listed = λ side name. refl;
  asked = λ side name. omega arith;
  creates = refl;
  tables = tt;
}

pub reads_more : (front back : List Found) (old mid new : DiskView) → ReadsOnly front old mid → ReadsOnly back mid new → ReadsOnly (front ++ back) old new
reads_more front back old mid new a b = record {
  made = b.made ++ a.made;
  makes = makes_further a.made b.made old mid new a.makes b.makes;
  lists = λ side. omega (arith, listings-append side b.made a.made, a.lists side, b.lists side);
  listed = λ side name. omega (arith, length_listed-append side name b.made a.made, a.listed side name, b.listed side name);
  asked = λ side name. omega (arith, bytes_asked-append side name b.made a.made, bytes_append side name front back, a.asked side name, b.asked side name);
  creates = creations_further b.made a.made ∙ omega (arith, a.creates, b.creates);
  tables = not_on_tables b.made a.made b.tables a.tables;
}

-- the row may go on after what was read
pub reads_wider : (front back : List Found) (old new : DiskView) → ReadsOnly front old new → ReadsOnly (front ++ back) old new
reads_wider front back old new a = record {
  made = a.made;
  makes = a.makes;
  lists = a.lists;
  listed = a.listed;
  asked = λ side name. omega (arith, bytes_append side name front back, a.asked side name);
  creates = a.creates;
  tables = a.tables;
}

-- a segment of which nothing is asked stands after
pub reads_then_nothing : (row : List Found) (old mid new : DiskView) → ReadsOnly row old mid → ReadsOnly [] mid new → ReadsOnly row old new
reads_then_nothing row old mid new a b = subst (λ (r : List Found). ReadsOnly r old new) (append-nil row) (reads_more row [] old mid new a b)

if_less : (test : Bool) (m n : ℕ) → m ≤ n → (if test then m else 0) ≤ (if test then n else 0)
if_less true m n le = le
if_less false m n le = omega arith

sum_less : (m n : ℕ) → m ≤ n → 0 + m ≤ 0 + n
sum_less m n le = omega (arith, le)

-- one read of a segment, of no more bytes than it has
pub reads_one : (f : Found) (len : ℕ) (old new : DiskView) → new.calls ≡ was_read f.side f.name len ∷ old.calls → len ≤ f.len → ReadsOnly (f ∷ []) old new
reads_one f len old new is le = record {
  made = was_read f.side f.name len ∷ [];
  makes = is;
  lists = λ side. refl;
  listed = λ side name. refl;
  asked = λ side name. sum_less (if side_eq side f.side && name_eq name f.name then len else 0) (bytes_here side name f)
      (if_less (side_eq side f.side && name_eq name f.name) len f.len le);
  creates = refl;
  tables = (tt, tt);
}

-- one operation, of a segment that is there
pub starts_one : (id : OpId) (flight : Flight) (old new : DiskView) → creates flight.act ≡ 0 → new.calls ≡ was_started id flight ∷ old.calls
    → ReadsOnly [] old new
starts_one id flight old new none is = record {
  made = was_started id flight ∷ [];
  makes = is;
  lists = λ side. refl;
  listed = λ side name. refl;
  asked = λ side name. omega arith;
  creates = omega (arith, none);
  tables = (tt, tt);
}

pub polls_one : (id : OpId) (answer : Progress) (old new : DiskView) → new.calls ≡ was_polled id answer ∷ old.calls → ReadsOnly [] old new
polls_one id answer old new is = record {
  made = was_polled id answer ∷ [];
  makes = is;
  lists = λ side. refl;
  listed = λ side name. refl;
  asked = λ side name. omega arith;
  creates = refl;
  tables = (tt, tt);
}

-- ---- the listings

-- the lengths that both listings give a segment
abbrev lengths : Side → SegName → List Listed → List Listed → ℕ
lengths Primary name ones others = length_among name ones
lengths Secondary name ones others = length_among name others

among_cons : (name : SegName) (item : Listed) (items : List Listed)
    → length_among name (item ∷ items) ≡ (if name_eq name item.name then item.len else 0) + length_among name items
among_cons name item items = sum_by-cons (λ (x : Listed). if name_eq name x.name then x.len else 0) item items

bytes_cons : (side : Side) (name : SegName) (f : Found) (row : List Found)
    → length_in_row side name (f ∷ row) ≡ bytes_here side name f + length_in_row side name row
bytes_cons side name f row = sum_by-cons (bytes_here side name) f row

before_none : (n : ℕ) → n ≡ 0 + n
before_none n = omega arith

between_none : (n : ℕ) → 0 + n + 0 ≡ n
between_none n = omega arith

-- a segment that is taken of a side is listed there
taken : (side : Side) (name : SegName) (f : Found) (ones others a b : List Listed) → Takes f ones others a b
    → lengths side name ones others ≡ bytes_here side name f + lengths side name a b
taken Primary name f ones others a b (inl (is, one, other, before)) =
    ap (length_among name) one ∙ among_cons name (item_of f) a ∙ ap
    (λ (s : Side). (if side_eq Primary s && name_eq name f.name then f.len else 0) + length_among name a) (sym is)
taken Secondary name f ones others a b (inl (is, one, other, before)) =
    ap (length_among name) other ∙ before_none (length_among name b)
    ∙ ap (λ (s : Side). (if side_eq Secondary s && name_eq name f.name then f.len else 0) + length_among name b) (sym is)
taken Primary name f ones others a b (inr (is, other, one, before)) =
    ap (length_among name) one ∙ before_none (length_among name a)
    ∙ ap (λ (s : Side). (if side_eq Primary s && name_eq name f.name then f.len else 0) + length_among name a) (sym is)
taken Secondary name f ones others a b (inr (is, other, one, before)) =
    ap (length_among name) other ∙ among_cons name (item_of f) b
    ∙ ap (λ (s : Side). (if side_eq Secondary s && name_eq name f.name then f.len else 0) + length_among name b) (sym is)

woven : (side : Side) (name : SegName) (row : List Found) (ones others : List Listed) → Weaves row ones others [] []
    → lengths side name ones others ≡ length_in_row side name row
unfolding Weaves
woven Primary name [] ones others w = ap (length_among name) w.0
woven Secondary name [] ones others w = ap (length_among name) w.1
woven side name (f ∷ row) ones others (a, b, takes, rest) =
    taken side name f ones others a b takes ∙ ap (λ (n : ℕ). bytes_here side name f + n) (woven side name row a b rest) ∙ sym (bytes_cons side name f row)

each_once : (ones others : List Listed) (side : Side) → listings side (both_listed ones others) ≡ 1
each_once ones others Primary = refl
each_once ones others Secondary = refl

none_asked : (ones others : List Listed) (side : Side) (name : SegName) → bytes_asked side name (both_listed ones others) ≡ 0
none_asked ones others side name = refl

-- what both listings give a segment
listed_both : (side : Side) (name : SegName) (ones others : List Listed) → length_listed side name (both_listed ones others) ≡ lengths side name ones others
listed_both Primary name ones others = let e : 0 + 0 + length_among name ones ≡ length_among name ones = omega arith in e
listed_both Secondary name ones others = between_none (length_among name others)

-- a row that is woven of parts of both listings has no more bytes
pub as_long_as_listed : (row : List Found) (sides : Sides) (ones others : List Listed) → Weaves row ones others [] []
    → ((name : SegName) → length_among name ones ≤ length_among name sides.primary)
    → ((name : SegName) → length_among name others ≤ length_among name sides.secondary) → IsAsLongAsListed row sides
as_long_as_listed row sides ones others w less fewer side name =
    omega (arith, woven side name row ones others w, shorter side, listed_both side name sides.primary sides.secondary)
  where
    shorter : (s : Side) → lengths s name ones others ≤ lengths s name sides.primary sides.secondary
    shorter Primary = less name
    shorter Secondary = fewer name

-- a segment below all that are listed is not among them
none_among : (name : SegName) (least : ℕ) (names : List Listed) → ((item : Listed) → Contains names item → least ≤ item.name.wal) → name.wal < least
    → length_among name names ≡ 0
none_among name least [] from low = refl
none_among name least (item ∷ names) from low =
    among_cons name item names ∙ omega (
      arith,
      other (name.wal == item.name.wal) refl,
      none_among name least names (λ x at. from x (Contains-append_right (item ∷ []) names x at)) low,
    )
  where
    other : (same : Bool) → (name.wal == item.name.wal) ≡ same → (if name_eq name item.name then item.len else 0) ≡ 0
    other true is = absurd (omega (arith, low, from item (0, omega arith, refl), eqb-true name.wal item.name.wal is))
    other false is = ap (λ (b : Bool). if b && name.index == item.name.index then item.len else 0) is

-- a row that is woven of listings from a WAL on has nothing below it
pub none_below : (row : List Found) (least : ℕ) (ones others : List Listed) → Weaves row ones others [] []
    → ((item : Listed) → Contains ones item → least ≤ item.name.wal) → ((item : Listed) → Contains others item → least ≤ item.name.wal)
    → HasNoByteBelow least row
none_below row least ones others w low lower side name less = sym (woven side name row ones others w) ∙ none side
  where
    none : (s : Side) → lengths s name ones others ≡ 0
    none Primary = none_among name least ones low less
    none Secondary = none_among name least others lower less

-- at most one listing of each side, and no read
pub lists_two : (ones others : List Listed) (old mid new : DiskView) → Makes (was_listed Primary ones ∷ []) old mid
    → Makes (was_listed Secondary others ∷ []) mid new → AsksOnce old new
lists_two ones others old mid new a b = record {
  made = both_listed ones others;
  makes = makes_further (was_listed Primary ones ∷ []) (was_listed Secondary others ∷ []) old mid new a b;
  lists = λ side. omega (arith, each_once ones others side);
  reads = λ side name. omega arith;
  creates = refl;
}

pub lists_one : (ones : List Listed) (old new : DiskView) → Makes (was_listed Primary ones ∷ []) old new → AsksOnce old new
lists_one ones old new a = record { made = was_listed Primary ones ∷ []; makes = a; lists = once; reads = λ side name. omega arith; creates = refl }
  where
    once : (side : Side) → listings side (was_listed Primary ones ∷ []) ≤ 1
    once Primary = omega arith
    once Secondary = omega arith

-- nothing is done but these listings
pub only_two : (ones others : List Listed) (old mid new : DiskView) → Makes (was_listed Primary ones ∷ []) old mid
    → Makes (was_listed Secondary others ∷ []) mid new → OnlyLists old new
only_two ones others old mid new a b = record {
  made = both_listed ones others;
  makes = makes_further (was_listed Primary ones ∷ []) (was_listed Secondary others ∷ []) old mid new a b;
  lists = λ side. omega (arith, each_once ones others side);
  asked = λ side name. refl;
  creates = refl;
  tables = (tt, (tt, tt));
}

pub only_one : (ones : List Listed) (old new : DiskView) → Makes (was_listed Primary ones ∷ []) old new → OnlyLists old new
only_one ones old new a = record {
  made = was_listed Primary ones ∷ [];
  makes = a;
  lists = once;
  asked = λ side name. refl;
  creates = refl;
  tables = (tt, tt);
}
  where
    once : (side : Side) → listings side (was_listed Primary ones ∷ []) ≤ 1
    once Primary = omega arith
    once Secondary = omega arith

-- ---- the whole recovery

pub reads_listed : (row : List Found) (least : ℕ) (sides : Sides) (old new : DiskView) → IsAsLongAsListed row sides → HasNoByteBelow least row
    → ReadsOnly row old new → ReadsListed least sides old new
reads_listed row least sides old new long none a = record {
  made = a.made;
  makes = a.makes;
  lists = a.lists;
  listed = a.listed;
  asked = λ side name. omega (arith, a.asked side name, long side name);
  below = λ side name less. omega (arith, a.asked side name, none side name less);
  creates = a.creates;
  tables = a.tables;
}

pub reads_no_listed : (least : ℕ) (sides : Sides) (v : DiskView) → ReadsListed least sides v v
reads_no_listed least sides v = record {
  made = [];
  makes = makes_none v;
  lists = λ side. refl;
  listed = λ side name. refl;
  asked = λ side name. omega arith;
  below = λ side name less. refl;
  creates = refl;
  tables = tt;
}

pub asks_once : (least : ℕ) (sides : Sides) (old mid new : DiskView) → ListsBoth sides old mid → ReadsListed least sides mid new → AsksOnce old new
asks_once least sides old mid new a b = record {
  made = b.made ++ both_listed sides.primary sides.secondary;
  makes = makes_further (both_listed sides.primary sides.secondary) b.made old mid new a b.makes;
  lists = λ side. omega (
    arith,
    listings-append side b.made (both_listed sides.primary sides.secondary),
    each_once sides.primary sides.secondary side,
    b.lists side,
  );
  reads = λ side name. omega (
    arith,
    bytes_asked-append side name b.made (both_listed sides.primary sides.secondary),
    length_listed-append side name b.made (both_listed sides.primary sides.secondary),
    none_asked sides.primary sides.secondary side name,
    b.asked side name,
    b.listed side name,
  );
  creates = creations_further b.made (both_listed sides.primary sides.secondary) ∙ omega (arith, b.creates);
}

pub lists_in_turn : (least : ℕ) (sides : Sides) (old mid new : DiskView) → ListsBoth sides old mid → ReadsListed least sides mid new → ListsInTurn old new
lists_in_turn least sides old mid new a b = record {
  ones = sides.primary;
  others = sides.secondary;
  later = b.made;
  makes = makes_further (both_listed sides.primary sides.secondary) b.made old mid new a b.makes;
  no_more = b.lists;
}

-- the WALs of a row have its segments
pub found_of : (wals : List FoundWal) (row : List Found) → Groups wals row [] → found_in wals ≡ row
unfolding Groups
found_of [] row g = sym g
found_of (wal ∷ wals) row (later, group, rest) = ap (λ (l : List Found). wal.segments.items ++ l) (found_of wals later rest) ∙ sym group.cut

-- ---- step by step

pub reads_same : (row : List Found) (old new : DiskView) → new ≡ old → ReadsOnly row old new
reads_same row old new is = subst (λ (v : DiskView). ReadsOnly row old v) (sym is) (reads_none row old)

-- the calls of an operation and of its polls
pub reads_nothing : (old mid new : DiskView) → ReadsOnly [] old mid → ReadsOnly [] mid new → ReadsOnly [] old new
reads_nothing old mid new a b = reads_more [] [] old mid new a b

-- one segment more of a row
pub reads_taken : (row : List Found) (i : ℕ) (d : Found) (old mid new : DiskView) → i < length row → ReadsOnly (take i row) old mid
    → ReadsOnly (get_or row i d ∷ []) mid new → ReadsOnly (take (i + 1) row) old new
reads_taken row i d old mid new lt a b =
    subst (λ (r : List Found). ReadsOnly r old new) (sym (take_more row i d lt)) (reads_more (take i row) (get_or row i d ∷ []) old mid new a b)

pub reads_within : (row : List Found) (i : ℕ) (d : Found) (old mid new : DiskView) → i < length row → ReadsOnly (take i row) old mid
    → ReadsOnly (get_or row i d ∷ []) mid new → ReadsOnly row old new
reads_within row i d old mid new lt a b =
    subst (λ (r : List Found). ReadsOnly r old new) (take-append-drop (i + 1) row)
    (reads_wider (take (i + 1) row) (drop (i + 1) row) old new (reads_taken row i d old mid new lt a b))

found_append : (front back : List FoundWal) → found_in (front ++ back) ≡ found_in front ++ found_in back
found_append front back = flat_map-append (λ (wal : FoundWal). wal.segments.items) front back

-- one WAL more
pub reads_wal : (wals : List FoundWal) (i : ℕ) (wal : FoundWal) (old mid new : DiskView) → StandsAt wals i wal
    → ReadsOnly (found_in (take i wals)) old mid → ReadsOnly wal.segments.items mid new → ReadsOnly (found_in (take (i + 1) wals)) old new
reads_wal wals i wal old mid new at a b =
    let longer : found_in (take (i + 1) wals) ≡ found_in (take i wals) ++ wal.segments.items =
    ap found_in (take_more wals i wal at.within ∙ ap (λ (w : FoundWal). take i wals ++ w ∷ []) (sym at.is))
    ∙ found_append (take i wals) (wal ∷ [])
    ∙ ap (λ (r : List Found). found_in (take i wals) ++ r) (append-nil wal.segments.items) in
    subst (λ (r : List Found). ReadsOnly r old new) (sym longer) (reads_more (found_in (take i wals)) wal.segments.items old mid new a b)

pub reads_wal_within : (wals : List FoundWal) (i : ℕ) (wal : FoundWal) (old mid new : DiskView) → StandsAt wals i wal
    → ReadsOnly (found_in (take i wals)) old mid → ReadsOnly wal.segments.items mid new → ReadsOnly (found_in wals) old new
reads_wal_within wals i wal old mid new at a b =
    subst (λ (r : List Found). ReadsOnly r old new) (sym (found_append (take (i + 1) wals) (drop (i + 1) wals)) ∙ ap found_in (take-append-drop (i + 1) wals))
    (reads_wider (found_in (take (i + 1) wals)) (found_in (drop (i + 1) wals)) old new (reads_wal wals i wal old mid new at a b))
