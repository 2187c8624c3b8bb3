-- The lines of a load are of its four sessions.
use Rattle.std.specs.Prelude.{◌≡◌, ◌∷◌, ℕ, List, Option, Some, None, IfSome}
use Rattle.std.proofs.Common.{subst, sym, rules}
use Rattle.session_replies.specs.Rounds.{LinesAreOfSome, NameSessions}
use Rattle.made_load.specs.declared.load.TheConstants.{LOAD_SESSIONS}
use Rattle.session_replies.specs.declared.script.Round.{Round}
use Rattle.made_load.specs.Load.{load_rounds}
use Rattle.made_load.proofs.Laws.{load_names_four}
use Rattle.session_rounds.proofs.tests.load_of.Goals as goal

first_named : (sessions : ℕ) (next : Option Round) (all rest : List Round) → NameSessions sessions all → IfSome next (λ round. all ≡ round ∷ rest)
    → IfSome next (λ (round : Round). LinesAreOfSome sessions round.lines)
first_named sessions None all rest named is = tt
first_named sessions (Some round) all rest named is = let first : NameSessions sessions (round ∷ rest) = subst (NameSessions sessions) is named in first.0

pub returns : goal.returns
returns c =
    let sessions = c.args.row.sessions in
    let batches = c.args.row.batches in
    let four : sessions ≡ LOAD_SESSIONS = search rules in
    let named : NameSessions sessions (load_rounds 7 batches) =
    subst (λ (n : ℕ). NameSessions n (load_rounds 7 batches)) (sym four) (load_names_four 7 batches) in
    first_named sessions c.next_round.result c.new-load.result c.next_round.new.self
    (subst (NameSessions sessions) (sym c.new-load.ensures) named) c.next_round.ensures.some
