-- What the parse answers, by what `clap` answers.
use Rattle.std.proofs.Common.{◌≡◌, inl, inr, ◌∙◌, sym, subst, Bool, true, false, true≢false, List, [], Option, Some, None, IfSome, IfNone, codes, map}
use Rattle.std.specs.List.{list_any}
use Rattle.std.specs.Str.{bytes_eq}
use Rattle.clap.specs.Walk.{Text}
use Rattle.clap.specs.Simple.{App, HasMatchesOf, is_simple, subcommand_of, subcommand_rows_of}
use Rattle.clap.specs.Faults.{fault_of, is_simple_and_free}
use Rattle.clap.specs.Kinds.{HasKind, IsAmong}
use Rattle.clap.specs.Values.{kind_of}
use Rattle.clap.specs.declared.error.Error.{Error}
use Rattle.clap.specs.declared.error.kind.ErrorKind.TheVariants as kind
use Rattle.clap.specs.declared.parser.matches.ArgMatches.{ArgMatches}
use Rattle.clap.proofs.WalkLemmas.{both, list_any-map}
use Rattle.command_line.specs.declared.asked.Asked.{Asked}
use Rattle.command_line.specs.Asked.{IsAskedBy, IsReadFrom, IsReadFromNothing}
use Rattle.command_line.specs.Commands.{IsNoCommand}
use Rattle.command_line.specs.Program.{has_end, program_app}
use Rattle.command_line.proofs.Enters.{simple}
use Rattle.command_line.proofs.Forms.{commands_taken}
use Rattle.command_line.proofs.Taken.{answers}

pub has_end_is : {X : Type 0} (text : X → Text) (words : List X) (found : Bool) (answer : Bool)
    → answer ≡ list_any (λ word. bytes_eq (text word) (codes "--")) words → answer ≡ found → has_end (map text words) ≡ found
has_end_is text words found answer is same = sym (list_any-map (λ word. bytes_eq word (codes "--")) text words) ∙ sym is ∙ same

pub ended : (words : List Text) → has_end words ≡ true → IsNoCommand words
ended words has command is = true≢false (sym has ∙ (commands_taken words command is).whole)

pub refused : (app : App) (words : List Text) (e : Error) → app ≡ program_app
    → (is_simple_and_free app ≡ true → HasKind (fault_of app words) e) → (kind_of e ≡ kind.OutOfMemory → ⊥) → IsNoCommand words
refused app words e is fails other command asks = go fault
  where
    fault : HasKind (fault_of program_app words) e
    fault = subst (λ a. is_simple_and_free a ≡ true → HasKind (fault_of a words) e) is fails simple

    go : HasKind (fault_of program_app words) e → ⊥
    go (inl memory) = other memory
    go (inr among) = subst (IsAmong (kind_of e)) (commands_taken words command asks).passes among

-- the subcommand that was met is that of the words
met_by : (app : App) (words : List Text) (m : ArgMatches) → app ≡ program_app → HasMatchesOf app words m
    → subcommand_rows_of m ≡ subcommand_of program_app words
met_by app words m is found =
    (subst (λ a. HasMatchesOf a words m) is found (both (is_simple program_app) _ simple).0).1

pub accepted : (app : App) (words : List Text) (m : ArgMatches) (asked : Option Asked) → app ≡ program_app → has_end words ≡ false
    → (is_simple_and_free app ≡ true → fault_of app words ≡ []) → HasMatchesOf app words m
    → IfSome asked (λ a. IfSome (subcommand_rows_of m) (λ met. IsReadFrom met.0 met.1 a)) → IfSome asked (IsAskedBy words)
accepted app words m None is whole passes found read = tt
accepted app words m (Some asked) is whole passes found read =
    let taken = answers words whole (subst (λ a. is_simple_and_free a ≡ true → fault_of a words ≡ []) is passes simple) in
    taken.asks asked (subst (λ o. IfSome o (λ met. IsReadFrom met.0 met.1 asked)) (met_by app words m is found ∙ taken.met) read)

pub never_nothing : (app : App) (words : List Text) (m : ArgMatches) (asked : Option Asked) → app ≡ program_app → has_end words ≡ false
    → (is_simple_and_free app ≡ true → fault_of app words ≡ []) → HasMatchesOf app words m
    → IfNone asked (IfSome (subcommand_rows_of m) (λ met. IsReadFromNothing met.0 met.1)) → IfNone asked (IsNoCommand words)
never_nothing app words m (Some asked) is whole passes found read = tt
never_nothing app words m None is whole passes found read =
    let taken = answers words whole (subst (λ a. is_simple_and_free a ≡ true → fault_of a words ≡ []) is passes simple) in
    absurd (taken.something (subst (λ o. IfSome o (λ met. IsReadFromNothing met.0 met.1)) (met_by app words m is found ∙ taken.met) read))
