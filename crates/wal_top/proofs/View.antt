-- What `view` says of the lines of its source and of a recovered store, and that it says what has to come.
use Rattle.std.proofs.Common.{◌≡◌, ℕ, ◌<◌, ◌≤◌, List, length, Option, Some, None, sym, ap, ◌∙◌, refl, subst, arith}
use Rattle.batch_repr.specs.declared.batch.Batch.{Batch}
use Rattle.batch_repr.specs.declared.limits.TheConstants.{NUMBER_MAX}
use Rattle.disk_face.specs.View.{NothingInFlight}
use Rattle.wal_recovery.specs.declared.reports.Mode.TheVariants.{Strict}
use Rattle.flush_table.specs.declared.reports.StoreRead.{StoreRead}
use Rattle.flush_table.specs.Stores.{number_after}
use Rattle.flush_table.specs.Promises.{HasNext, HasNoGapBehindSeen}
use Rattle.flush_table.proofs.Laws.{IsRowOver, row_over}
use Rattle.snapshot_view.specs.Views.{CanBeViewed}
use Rattle.view_script.specs.declared.view_line.ViewLine.{ViewLine}
use Rattle.view_script.specs.Asking.{view_lines, AreAsked, IsFirstBadLine}
use Rattle.view_script.proofs.Laws.{none_bad}
use Rattle.wal_top.specs.declared.status.Status.{Status}
use Rattle.wal_top.specs.declared.status.Status.TheVariants as statuses
use Rattle.wal_top.specs.declared.status.Status.TheVariants.{Done, Usage, Read, Write, Disk, Refused, NoMemory, Limit}
use Rattle.wal_top.specs.Call.{Change, Invocation, Stays, HasCalmSource}
use Rattle.wal_top.specs.Recovery.{SaysShown, ShownIsDue}
use Rattle.wal_top.specs.View.{ReadsLines, RefusesLines, long_view, bad_view, AreNoLines, too_many, bad_at, TellsLines, TellsNoLines, ShowsView, SaysView, ViewIsDue, LeavesView, SaysOfLines}
use Rattle.wal_top.specs.Rightly.{IsOfCommand, IsTheDue}
use Rattle.wal_top.proofs.AddsPiece.{took_none}
use Rattle.wal_top.proofs.Recovery.{shown_told, shown_due}
use Rattle.wal_top.proofs.Replay.{not_longer, read_is_told}
use Rattle.wal_top.proofs.Untouched.{untouched_polls, untouched_journal}

-- ---- the store that was read can be viewed from its floor

pub can_be_viewed : (found : StoreRead) → HasNoGapBehindSeen found → HasNext found → found.next ≤ NUMBER_MAX
    → CanBeViewed found.batches (number_after found.table)
can_be_viewed found goes next within =
    let row = row_over found goes in
    record { start = row.start; row = row.row; from = row.from; to = row.to; small = λ some. omega (arith, row.end, next, within) }

-- ---- a source that tells its lines

-- Lines that are accepted are not refused.
lines_not_refused : (left : Change (Option (List ℕ))) (text : List ℕ) → TellsLines left.before → RefusesLines left text → ⊥
lines_not_refused left _ told (long_view more) = omega (
  arith,
  more.past,
  told.within,
  not_longer told.bytes more.front left.after (sym more.taken ∙ told.told_is),
)
lines_not_refused left _ told (bad_view number b) =
    let same_bytes : b.bytes ≡ told.bytes = read_is_told left.before left.after b.bytes told.bytes b.whole told.told_is in
    none_bad (view_lines told.bytes) told.lines number told.asked (subst (λ (t : List ℕ). IsFirstBadLine (view_lines t) number) same_bytes b.bad)

-- Lines that are too many bytes, or have a bad one, are not accepted.
lines_not_accepted : (before after : Option (List ℕ)) (lines : List ViewLine) → TellsNoLines before → ReadsLines before lines after → ⊥
lines_not_accepted before after lines told a =
    let same_bytes : a.bytes ≡ told.bytes = read_is_told before after a.bytes told.bytes a.whole told.told_is in
    wrong same_bytes told.wrong
  where
    wrong : a.bytes ≡ told.bytes → AreNoLines told.bytes → ⊥
    wrong e (too_many past) = omega (arith, past, a.within, ap length e)
    wrong e (bad_at number short b) =
        none_bad (view_lines a.bytes) lines number a.asked (subst (λ (t : List ℕ). IsFirstBadLine (view_lines t) number) (sym e) b)

module _ (c : Invocation) (text : List ℕ) where
  -- ---- what is said

  -- the accepted lines, with what is shown of the store
  abbrev pub Viewed : Status → Type 0
  Viewed status = (lines : List ViewLine) × ReadsLines c.left.before lines c.left.after
      × SaysShown Strict c.tells c.disk (ShowsView c.tells c.disk lines text) status text

  pub says_viewed : (status : Status) → Viewed status → SaysView c status text
  says_viewed Done h = h
  says_viewed Usage h = h
  says_viewed statuses.Script (lines, reads, h) = absurd h
  says_viewed Read (lines, reads, h) = absurd h
  says_viewed Write h = h
  says_viewed Disk h = h
  says_viewed Refused h = h
  says_viewed NoMemory h = h
  says_viewed Limit h = h

  pub says_unviewed : Stays c.disk → (status : Status) → SaysOfLines c.left c.source_faults status text → SaysView c status text
  says_unviewed stays Done h = absurd h
  says_unviewed stays Usage h = absurd h
  says_unviewed stays statuses.Script h = (h, stays)
  says_unviewed stays Read (rose, told) = (rose, told, stays)
  says_unviewed stays Write h = absurd h
  says_unviewed stays Disk h = absurd h
  says_unviewed stays Refused h = absurd h
  says_unviewed stays NoMemory h = absurd h
  says_unviewed stays Limit h = absurd h

  viewed_told : (status : Status) → Viewed status → IsOfCommand status
  viewed_told status (lines, reads, h) = shown_told Strict c.tells c.disk text (ShowsView c.tells c.disk lines text) status h

  pub view_told : (said : Status) → SaysView c said text → IsOfCommand said
  view_told Done h = tt
  view_told Usage h = tt
  view_told statuses.Script h = tt
  view_told Read h = tt
  view_told Write h = viewed_told Write h
  view_told Disk h = tt
  view_told Refused h = tt
  view_told NoMemory h = viewed_told NoMemory h
  view_told Limit h = tt

  -- ---- what has to come

  module _ (told : TellsNoLines c.left.before) (calm : HasCalmSource c) where
    none_viewed : (said : Status) → Viewed said → statuses.Script ≡ said
    none_viewed said (lines, reads, h) = absurd (lines_not_accepted c.left.before c.left.after lines told reads)

    no_lines_due : (said : Status) → SaysView c said text → statuses.Script ≡ said
    no_lines_due Done h = none_viewed Done h
    no_lines_due Usage h = none_viewed Usage h
    no_lines_due statuses.Script h = refl
    no_lines_due Read h = absurd (calm h.0)
    no_lines_due Write h = none_viewed Write h
    no_lines_due Disk h = none_viewed Disk h
    no_lines_due Refused h = none_viewed Refused h
    no_lines_due NoMemory h = none_viewed NoMemory h
    no_lines_due Limit h = none_viewed Limit h

  module _ (told : TellsLines c.left.before) (calm : HasCalmSource c) (due : Status) (is_due : ShownIsDue Strict c.tells c.disk due) where
    viewed_due : (said : Status) → Viewed said → due ≡ said
    viewed_due said (lines, reads, h) =
        shown_due Strict c.tells c.disk text (ShowsView c.tells c.disk lines text) (λ shows. shows.read) said h due is_due

    lines_due : (said : Status) → SaysView c said text → due ≡ said
    lines_due Done h = viewed_due Done h
    lines_due Usage h = viewed_due Usage h
    lines_due statuses.Script h = absurd (lines_not_refused c.left text told h.0)
    lines_due Read h = absurd (calm h.0)
    lines_due Write h = viewed_due Write h
    lines_due Disk h = viewed_due Disk h
    lines_due Refused h = viewed_due Refused h
    lines_due NoMemory h = viewed_due NoMemory h
    lines_due Limit h = viewed_due Limit h

  pub view_due : (said : Status) → SaysView c said text → IsTheDue (ViewIsDue c) said
  view_due said h Done (told, d, calm) = lines_due told calm Done d said h
  view_due said h Usage (told, d, calm) = absurd d
  view_due said h statuses.Script (told, calm) = no_lines_due told calm said h
  view_due said h Read (told, d, calm) = absurd d
  view_due said h Write (told, d, calm) = absurd d
  view_due said h Disk (told, d, calm) = absurd d
  view_due said h Refused (told, d, calm) = lines_due told calm Refused d said h
  view_due said h NoMemory (told, d, calm) = absurd d
  view_due said h Limit (told, d, calm) = absurd d

-- ---- what is left where nothing was read or done

pub view_unrun : (c : Invocation) → Stays c.left → Stays c.disk → NothingInFlight c.disk.after → LeavesView c
view_unrun c unread untouched rests = record {
  took = took_none c.left.before c.left.after _ unread;
  polls = untouched_polls c.tells c.disk untouched;
  no_journal = untouched_journal c.tells c.disk untouched rests;
}
