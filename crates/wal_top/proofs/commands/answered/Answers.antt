-- Each command says what its words have to say, and leaves what they may leave.
use Rattle.std.proofs.Common.{List, ℕ, map, Err, refl, ap, subst}
use Rattle.std.specs.String.{string_bytes}
use Rattle.disk_face.specs.View.{NothingInFlight}
use Rattle.command_line.specs.declared.command.Command.{Command}
use Rattle.command_line.specs.declared.command.Command.TheVariants as commands
use Rattle.command_line.specs.Commands.{IsCommandOf, IsNoCommand}
use Rattle.wal_top.specs.Call.{Invocation, Stays, call_of, change_in}
use Rattle.wal_top.specs.ByCommand.{usage_text, LeavesOf, unasked, IsDue, asked_due, unasked_due}
use Rattle.wal_top.specs.Rightly.{IsTheDue, SaysRightly}
use Rattle.wal_top.specs.Run.{Leaves}
use Rattle.wal_top.specs.declared.status.Status.TheVariants.{Usage}
use Rattle.wal_top.proofs.Saying.{ok_map, as_told}
use Rattle.wal_top.proofs.Untouched.{untouched_went}
use Rattle.wal_top.proofs.Replay.{replay_told, replay_due, replay_unrun}
use Rattle.wal_top.proofs.Load.{load_told, load_due, load_unrun}
use Rattle.wal_top.proofs.Recover.{recover_told, recover_due, recover_unrun}
use Rattle.wal_top.proofs.Dump.{dump_told, dump_due, dump_unrun}
use Rattle.wal_top.proofs.Flush.{flush_told, flush_due, flush_unrun}
use Rattle.wal_top.proofs.View.{view_told, view_due, view_unrun}
use Rattle.wal_top.proofs.Ship.{ship_told, ship_due, ship_unrun}
use Rattle.wal_top.proofs.ByCommand.{says_of, leaves_of}
use Rattle.wal_top.proofs.commands.answered.Goals as goal

-- ---- each command

pub returns-in-Ok-Replay-clause-says : goal.returns-in-Ok-Replay-clause-says
returns-in-Ok-Replay-clause-says g c =
    let words = map string_bytes c.args.words.now in
    let call : Invocation = call_of g.S.Source.left g.S.Source.faults c.args.src.now c.replayed.new.src g.D.Disk.tells g.D.Disk.view c.args.disk c.replayed.result.disk in
    says_of words call (commands.Replay c.in-Ok-Replay.threshold) (subst (IsCommandOf words) c.in-Ok-Replay.field-0-is c.in-Ok-Replay.ensures.command)
    c.replayed.result.said c.replayed.ensures.says
    (replay_told c.in-Ok-Replay.threshold call) (replay_due c.in-Ok-Replay.threshold call)

pub returns-in-Ok-Replay-clause-leaves : goal.returns-in-Ok-Replay-clause-leaves
returns-in-Ok-Replay-clause-leaves g c =
    let words = map string_bytes c.args.words.now in
    let call : Invocation = call_of g.S.Source.left g.S.Source.faults c.args.src.now c.replayed.new.src g.D.Disk.tells g.D.Disk.view c.args.disk c.replayed.result.disk in
    leaves_of words call (commands.Replay c.in-Ok-Replay.threshold) (subst (IsCommandOf words) c.in-Ok-Replay.field-0-is c.in-Ok-Replay.ensures.command)
    c.replayed.ensures.went_on c.replayed.ensures.leaves

pub returns-in-Ok-Replay-clause-unread : goal.returns-in-Ok-Replay-clause-unread
returns-in-Ok-Replay-clause-unread g c none = absurd (none (
  commands.Replay c.in-Ok-Replay.threshold,
  subst (IsCommandOf (map string_bytes c.args.words.now)) c.in-Ok-Replay.field-0-is c.in-Ok-Replay.ensures.command,
  refl,
))

pub returns-in-Ok-Load-clause-says : goal.returns-in-Ok-Load-clause-says
returns-in-Ok-Load-clause-says g c =
    let words = map string_bytes c.args.words.now in
    let over = change_in g.D.Disk.view c.args.disk c.loaded.result.disk in
    let seed = c.in-Ok-Load.seed in
    let batches = c.in-Ok-Load.batches in
    says_of words (call_of g.S.Source.left g.S.Source.faults c.args.src.now c.args.src.now g.D.Disk.tells g.D.Disk.view c.args.disk c.loaded.result.disk)
    (commands.Load seed batches) (subst (IsCommandOf words) c.in-Ok-Load.field-0-is c.in-Ok-Load.ensures.command)
    c.loaded.result.said (ok_map c.loaded.result.said c.loaded.ensures.says (λ s p. (refl, p)))
    (λ text said p. load_told seed batches g.D.Disk.tells over text said p.1) (λ text said p. load_due seed batches g.D.Disk.tells over text said p.1)

pub returns-in-Ok-Load-clause-leaves : goal.returns-in-Ok-Load-clause-leaves
returns-in-Ok-Load-clause-leaves g c =
    let words = map string_bytes c.args.words.now in
    leaves_of words (call_of g.S.Source.left g.S.Source.faults c.args.src.now c.args.src.now g.D.Disk.tells g.D.Disk.view c.args.disk c.loaded.result.disk)
    (commands.Load c.in-Ok-Load.seed c.in-Ok-Load.batches) (subst (IsCommandOf words) c.in-Ok-Load.field-0-is c.in-Ok-Load.ensures.command)
    c.loaded.ensures.went_on (refl, c.loaded.ensures.leaves)

pub returns-in-Ok-Recover-clause-says : goal.returns-in-Ok-Recover-clause-says
returns-in-Ok-Recover-clause-says g c =
    let words = map string_bytes c.args.words.now in
    let over = change_in g.D.Disk.view c.args.disk c.store_said-said.new.disk in
    says_of words (call_of g.S.Source.left g.S.Source.faults c.args.src.now c.args.src.now g.D.Disk.tells g.D.Disk.view c.args.disk c.store_said-said.new.disk)
    commands.Recover (subst (λ (k : Command). IsCommandOf words k) c.in-Ok-Recover.field-0-is c.in-Ok-Recover.ensures.command)
    c.store_said-said.result (ok_map c.store_said-said.result c.store_said-said.ensures.says (λ s p. (refl, p)))
    (λ text said p. recover_told g.D.Disk.tells over text said p.1) (λ text said p. recover_due g.D.Disk.tells over text said p.1)

pub returns-in-Ok-Recover-clause-leaves : goal.returns-in-Ok-Recover-clause-leaves
returns-in-Ok-Recover-clause-leaves g c =
    let words = map string_bytes c.args.words.now in
    leaves_of words (call_of g.S.Source.left g.S.Source.faults c.args.src.now c.args.src.now g.D.Disk.tells g.D.Disk.view c.args.disk c.store_said-said.new.disk)
    commands.Recover (subst (λ (k : Command). IsCommandOf words k) c.in-Ok-Recover.field-0-is c.in-Ok-Recover.ensures.command)
    c.store_said-said.ensures.went_on (refl, c.store_said-said.ensures.leaves)

pub returns-in-Ok-Dump-clause-says : goal.returns-in-Ok-Dump-clause-says
returns-in-Ok-Dump-clause-says g c =
    let words = map string_bytes c.args.words.now in
    let over = change_in g.D.Disk.view c.args.disk c.segments_said-said.new.disk in
    says_of words (call_of g.S.Source.left g.S.Source.faults c.args.src.now c.args.src.now g.D.Disk.tells g.D.Disk.view c.args.disk c.segments_said-said.new.disk)
    commands.Dump (subst (λ (k : Command). IsCommandOf words k) c.in-Ok-Dump.field-0-is c.in-Ok-Dump.ensures.command)
    c.segments_said-said.result (ok_map c.segments_said-said.result c.segments_said-said.ensures.says (λ s p. (refl, p)))
    (λ text said p. dump_told g.D.Disk.tells over text said p.1) (λ text said p. dump_due g.D.Disk.tells over text said p.1)

pub returns-in-Ok-Dump-clause-leaves : goal.returns-in-Ok-Dump-clause-leaves
returns-in-Ok-Dump-clause-leaves g c =
    let words = map string_bytes c.args.words.now in
    leaves_of words (call_of g.S.Source.left g.S.Source.faults c.args.src.now c.args.src.now g.D.Disk.tells g.D.Disk.view c.args.disk c.segments_said-said.new.disk)
    commands.Dump (subst (λ (k : Command). IsCommandOf words k) c.in-Ok-Dump.field-0-is c.in-Ok-Dump.ensures.command)
    c.segments_said-said.ensures.went_on (refl, c.segments_said-said.ensures.leaves)

pub returns-in-Ok-Flush-clause-says : goal.returns-in-Ok-Flush-clause-says
returns-in-Ok-Flush-clause-says g c =
    let words = map string_bytes c.args.words.now in
    let over = change_in g.D.Disk.view c.args.disk c.flush_said-said.new.disk in
    says_of words (call_of g.S.Source.left g.S.Source.faults c.args.src.now c.args.src.now g.D.Disk.tells g.D.Disk.view c.args.disk c.flush_said-said.new.disk)
    commands.Flush (subst (λ (k : Command). IsCommandOf words k) c.in-Ok-Flush.field-0-is c.in-Ok-Flush.ensures.command)
    c.flush_said-said.result (ok_map c.flush_said-said.result c.flush_said-said.ensures.says (λ s p. (refl, p)))
    (λ text said p. flush_told g.D.Disk.tells over text said p.1) (λ text said p. flush_due g.D.Disk.tells over text said p.1)

pub returns-in-Ok-Flush-clause-leaves : goal.returns-in-Ok-Flush-clause-leaves
returns-in-Ok-Flush-clause-leaves g c =
    let words = map string_bytes c.args.words.now in
    leaves_of words (call_of g.S.Source.left g.S.Source.faults c.args.src.now c.args.src.now g.D.Disk.tells g.D.Disk.view c.args.disk c.flush_said-said.new.disk)
    commands.Flush (subst (λ (k : Command). IsCommandOf words k) c.in-Ok-Flush.field-0-is c.in-Ok-Flush.ensures.command)
    c.flush_said-said.ensures.went_on (refl, c.flush_said-said.ensures.leaves)

pub returns-in-Ok-View-clause-says : goal.returns-in-Ok-View-clause-says
returns-in-Ok-View-clause-says g c =
    let words = map string_bytes c.args.words.now in
    let call : Invocation = call_of g.S.Source.left g.S.Source.faults c.args.src.now c.view_said-said.new.src g.D.Disk.tells g.D.Disk.view c.args.disk c.view_said-said.new.disk in
    says_of words call commands.View (subst (λ (k : Command). IsCommandOf words k) c.in-Ok-View.field-0-is c.in-Ok-View.ensures.command)
    c.view_said-said.result c.view_said-said.ensures.says (view_told call) (view_due call)

pub returns-in-Ok-View-clause-leaves : goal.returns-in-Ok-View-clause-leaves
returns-in-Ok-View-clause-leaves g c =
    let words = map string_bytes c.args.words.now in
    let call : Invocation = call_of g.S.Source.left g.S.Source.faults c.args.src.now c.view_said-said.new.src g.D.Disk.tells g.D.Disk.view c.args.disk c.view_said-said.new.disk in
    leaves_of words call commands.View (subst (λ (k : Command). IsCommandOf words k) c.in-Ok-View.field-0-is c.in-Ok-View.ensures.command)
    c.view_said-said.ensures.went_on c.view_said-said.ensures.leaves

pub returns-in-Ok-View-clause-unread : goal.returns-in-Ok-View-clause-unread
returns-in-Ok-View-clause-unread g c none = absurd (none (
  commands.View,
  subst (λ (k : Command). IsCommandOf (map string_bytes c.args.words.now) k) c.in-Ok-View.field-0-is c.in-Ok-View.ensures.command,
  refl,
))

pub returns-in-Ok-Ship-clause-says : goal.returns-in-Ok-Ship-clause-says
returns-in-Ok-Ship-clause-says g c =
    let words = map string_bytes c.args.words.now in
    let over = change_in g.D.Disk.view c.args.disk c.ship_said-said.new.disk in
    says_of words (call_of g.S.Source.left g.S.Source.faults c.args.src.now c.args.src.now g.D.Disk.tells g.D.Disk.view c.args.disk c.ship_said-said.new.disk)
    commands.Ship (subst (λ (k : Command). IsCommandOf words k) c.in-Ok-Ship.field-0-is c.in-Ok-Ship.ensures.command)
    c.ship_said-said.result (ok_map c.ship_said-said.result c.ship_said-said.ensures.says (λ s p. (refl, p)))
    (λ text said p. ship_told g.D.Disk.tells over text said p.1) (λ text said p. ship_due g.D.Disk.tells over text said p.1)

pub returns-in-Ok-Ship-clause-leaves : goal.returns-in-Ok-Ship-clause-leaves
returns-in-Ok-Ship-clause-leaves g c =
    let words = map string_bytes c.args.words.now in
    leaves_of words (call_of g.S.Source.left g.S.Source.faults c.args.src.now c.args.src.now g.D.Disk.tells g.D.Disk.view c.args.disk c.ship_said-said.new.disk)
    commands.Ship (subst (λ (k : Command). IsCommandOf words k) c.in-Ok-Ship.field-0-is c.in-Ok-Ship.ensures.command)
    c.ship_said-said.ensures.went_on (refl, c.ship_said-said.ensures.leaves)

-- ---- words that are none, or were not read

-- a command that was not begun leaves what it may leave
unrun : (command : Command) (c : Invocation) → Stays c.left → Stays c.disk → NothingInFlight c.disk.after → LeavesOf command c
unrun (commands.Replay threshold) c unread untouched rests = replay_unrun c unread untouched
unrun (commands.Load seed batches) c unread untouched rests = (unread, load_unrun c.tells c.disk untouched)
unrun commands.Recover c unread untouched rests = (unread, recover_unrun c.tells c.disk untouched rests)
unrun commands.Dump c unread untouched rests = (unread, dump_unrun c.tells c.disk untouched rests)
unrun commands.Flush c unread untouched rests = (unread, flush_unrun c.tells c.disk untouched rests)
unrun commands.View c unread untouched rests = view_unrun c unread untouched rests
unrun commands.Ship c unread untouched rests = (unread, ship_unrun c.tells c.disk untouched rests)

leaves_all : (words : List (List ℕ)) (c : Invocation) → Stays c.left → Stays c.disk → NothingInFlight c.disk.after → Leaves words c
leaves_all words c unread untouched rests = record {
  went_on = untouched_went c.tells c.disk untouched;
  of_command = λ command is. unrun command c unread untouched rests;
  of_none = λ none. (unread, untouched);
}

usage_due : (words : List (List ℕ)) (call : Invocation) → IsNoCommand words → IsTheDue (IsDue words call) Usage
usage_due words call none due (asked_due command is d) = absurd (none command is)
usage_due words call none _ (unasked_due also) = refl

pub returns-in-Err-Usage-clause-says : goal.returns-in-Err-Usage-clause-says
returns-in-Err-Usage-clause-says g c =
    let words = map string_bytes c.args.words.now in
    let call : Invocation = call_of g.S.Source.left g.S.Source.faults c.args.src.now c.args.src.now g.D.Disk.tells g.D.Disk.view c.args.disk c.args.disk in
    let none = c.in-Err-Usage.ensures.usage (ap (λ x. Err x) c.in-Err-Usage.field-0-is) in
    ok_map c.saying.result c.saying.ensures (λ said p. as_told (SaysRightly words call) said.status Usage said.text usage_text (record {
      says = unasked none refl refl;
      told = tt;
      due = usage_due words call none;
    }) p.0 p.1)

pub returns-in-Err-Usage-clause-leaves : goal.returns-in-Err-Usage-clause-leaves
returns-in-Err-Usage-clause-leaves g c =
    leaves_all (map string_bytes c.args.words.now) (call_of g.S.Source.left g.S.Source.faults c.args.src.now c.args.src.now g.D.Disk.tells g.D.Disk.view c.args.disk c.args.disk)
    refl refl c.requires

pub returns-in-Err-NoMemory-clause-leaves : goal.returns-in-Err-NoMemory-clause-leaves
returns-in-Err-NoMemory-clause-leaves g c =
    leaves_all (map string_bytes c.args.words.now) (call_of g.S.Source.left g.S.Source.faults c.args.src.now c.args.src.now g.D.Disk.tells g.D.Disk.view c.args.disk c.args.disk)
    refl refl c.requires
