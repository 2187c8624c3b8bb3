-- The names that are left of both listings are those of what is left of the files, so the row that is woven of them is theirs.
use Rattle.std.proofs.Common.{◌≡◌, ◌≤◌, ◌∙◌, [], All, Contains, List, sym, subst}
use Rattle.std.proofs.lemmas.List.Elements.{Contains-get_or}
use Rattle.disk_face.specs.declared.Side.TheVariants.{Primary, Secondary}
use Rattle.disk_face.specs.declared.SegName.{SegName}
use Rattle.disk_face.specs.declared.Listed.{Listed}
use Rattle.disk_face.specs.View.{Files, Dirs}
use Rattle.disk_face.specs.Image.{dirs_as_read}
use Rattle.disk_face.specs.Asked.{length_among}
use Rattle.disk_face.specs.Listing.{AreSegmentNames, IsListing, IsSegmentName}
use Rattle.wal_recovery.specs.declared.listing.Found.{Found}
use Rattle.wal_recovery.specs.Listing.{from_wal}
use Rattle.wal_recovery.specs.Answers.{DiskMemoryOr}
use Rattle.wal_recovery.specs.Rows.{Ascends, IsRowOf, Weaves, files_from, RefusesTwice, MeetsOrMemory}
use Rattle.wal_recovery.specs.Sides.{AreListings, IsAsLongAsListed, HasNoByteBelow, IsBareIf}
use Rattle.wal_recovery.proofs.Tools.{ok_map, err_map}
use Rattle.wal_recovery.proofs.Weaves.{row_ascends, none_kept, woven_of_none}
use Rattle.wal_recovery.proofs.IsListing.{both_listed, row_of, met_refused, row_named, AreListed}
use Rattle.wal_recovery.proofs.From.{dirs_left, listing_left}
use Rattle.wal_recovery.proofs.ReadsOnly.{as_long_as_listed, none_below}
use Rattle.wal_recovery.proofs.listing.row_from.Goals as goal
use Rattle.wal_recovery.proofs.listing.row_from.Goals.{After-in_order}

pub returns-clause-ascends : goal.returns-clause-ascends
returns-clause-ascends c =
    let ones = c.names_from-primary.result.now in
    let others = c.names_from-secondary.result.now in
    ok_map (λ (row : List Found). Weaves row ones others [] []) Ascends c.in_order.result
    (λ row w. row_ascends row ones others [] [] w c.names_from-primary.ensures.ascending c.names_from-secondary.ensures.ascending)
    c.in_order.ensures.woven

-- names that are left are names of segments
named_left : (names kept : List Listed) → AreSegmentNames names → ((item : Listed) → Contains kept item → Contains names item) → AreSegmentNames kept
named_left names kept named within k d lt =
    let at = within _ (Contains-get_or kept k d lt) in
    subst (λ (item : Listed). IsSegmentName item.name) at.2 (named at.0 _ at.1)

pub returns-clause-numbers : goal.returns-clause-numbers
returns-clause-numbers c =
    let ones = c.names_from-primary.result.now in
    let others = c.names_from-secondary.result.now in
    ok_map (λ (row : List Found). Weaves row ones others [] []) (All (λ (f : Found). IsSegmentName f.name)) c.in_order.result
    (λ row w. row_named row ones others w c.names_from-primary.ensures.ascending c.names_from-secondary.ensures.ascending
    (named_left c.as_slice.result.now ones (subst AreSegmentNames (sym c.as_slice.ensures) c.requires.ones_named) c.names_from-primary.ensures.within)
    (named_left c.as_slice-2.result.now others (subst AreSegmentNames (sym c.as_slice-2.ensures) c.requires.others_named) c.names_from-secondary.ensures.within))
    c.in_order.ensures.woven

pub returns-clause-lengths : goal.returns-clause-lengths
returns-clause-lengths c =
    let ones = c.names_from-primary.result.now in
    let others = c.names_from-secondary.result.now in
    ok_map (λ (row : List Found). Weaves row ones others [] []) (λ (row : List Found). IsAsLongAsListed row c.args.sides.now) c.in_order.result
    (λ row w. as_long_as_listed row c.args.sides.now ones others w
    (subst (λ (l : List Listed). (name : SegName) → length_among name ones ≤ length_among name l) c.as_slice.ensures c.names_from-primary.ensures.shorter)
    (subst (λ (l : List Listed). (name : SegName) → length_among name others ≤ length_among name l) c.as_slice-2.ensures c.names_from-secondary.ensures.shorter))
    c.in_order.ensures.woven

pub returns-clause-below : goal.returns-clause-below
returns-clause-below c =
    let ones = c.names_from-primary.result.now in
    let others = c.names_from-secondary.result.now in
    ok_map (λ (row : List Found). Weaves row ones others [] []) (HasNoByteBelow c.args.least) c.in_order.result
    (λ row w. none_below row c.args.least ones others w c.names_from-primary.ensures.from c.names_from-secondary.ensures.from)
    c.in_order.ensures.woven

pub returns-clause-bare : goal.returns-clause-bare
returns-clause-bare c =
    let ones = c.names_from-primary.result.now in
    let others = c.names_from-secondary.result.now in
    ok_map (λ (row : List Found). Weaves row ones others [] []) (IsBareIf c.args.sides.now) c.in_order.result
    (λ row w none bare. woven_of_none row ones others w
    (none_kept c.as_slice.result.now ones (c.as_slice.ensures ∙ none) c.names_from-primary.ensures.within)
    (none_kept c.as_slice-2.result.now others (c.as_slice-2.ensures ∙ bare) c.names_from-secondary.ensures.within))
    c.in_order.ensures.woven

listed : (c : After-in_order) (files : Files) → AreListings files c.args.sides.now
    → AreListed (files_from c.args.least files) c.names_from-primary.result.now c.names_from-secondary.result.now
listed c files are =
    let ones = c.names_from-primary.result.now in
    let others = c.names_from-secondary.result.now in
    both_listed (files_from c.args.least files) ones others
    (listing_left c.args.least files Primary c.as_slice.result.now ones
    (subst (λ (names : List Listed). IsListing files Primary names) (sym c.as_slice.ensures) are.primary)
    c.names_from-primary.ensures.within c.names_from-primary.ensures.from c.names_from-primary.ensures.all)
    (listing_left c.args.least files Secondary c.as_slice-2.result.now others
    (subst (λ (names : List Listed). IsListing files Secondary names) (sym c.as_slice-2.ensures) are.secondary)
    c.names_from-secondary.ensures.within c.names_from-secondary.ensures.from c.names_from-secondary.ensures.all)

pub returns-clause-listed : goal.returns-clause-listed
returns-clause-listed c files are =
    let ones = c.names_from-primary.result.now in
    let others = c.names_from-secondary.result.now in
    ok_map (λ (row : List Found). Weaves row ones others [] []) (λ (row : List Found). IsRowOf (files_from c.args.least files) row) c.in_order.result
    (λ row w. row_of (files_from c.args.least files) ones others c.names_from-primary.ensures.ascending c.names_from-secondary.ensures.ascending
    (listed c files are) row w)
    c.in_order.ensures.woven

pub returns-clause-refused : goal.returns-clause-refused
returns-clause-refused c files are =
    let ones = c.names_from-primary.result.now in
    let others = c.names_from-secondary.result.now in
    err_map (MeetsOrMemory ones others) (DiskMemoryOr (RefusesTwice (from_wal c.args.least (dirs_as_read files)))) c.in_order.result
    (λ fault met. subst (λ (dirs : Dirs). DiskMemoryOr (RefusesTwice dirs) fault) (dirs_left c.args.least files)
    (met_refused (files_from c.args.least files) ones others c.names_from-primary.ensures.ascending c.names_from-secondary.ensures.ascending
    (listed c files are) fault met))
    c.in_order.ensures.refused
