-- What is asked and the command that it means: they follow from one another, over the words.
use Rattle.std.proofs.Common.{◌≡◌, ◌∙◌, inl, inr, ℕ, List, [], ◌∷◌, Option, Some, None, ap, sym, subst, codes, Result, Err, IfSome, IfNone, IfOk}
use Rattle.std.specs.Option.{ok_or}
use Rattle.std.specs.Borrow.{Bor}
use Rattle.command_line.specs.declared.command.Command.{Command}
use Rattle.command_line.specs.declared.command.Command.TheVariants as commands
use Rattle.command_line.specs.declared.command.WordsFault.{WordsFault}
use Rattle.command_line.specs.declared.command.WordsFault.TheVariants as faults
use Rattle.command_line.specs.declared.asked.Asked.{Asked}
use Rattle.command_line.specs.declared.asked.Asked.TheVariants as asks
use Rattle.command_line.specs.Commands.{IsCommandOf, IsNoCommand, IsThreshold, IsSeed, IsCount, AsksToReplay, AsksToLoad, default, apart, joined}
use Rattle.command_line.specs.Asked.{IsAskedBy, Means, MeansThreshold}
use Rattle.command_line.specs.Program.{command_alone}
use Rattle.command_line.proofs.Alone.{Sort, replays, loads, stands, sort, alone_is, replay_means, load_means}
use Rattle.command_line.proofs.OneCommand.{one_command}

pub answers : (words : List (List ℕ)) (asked : Asked) (command : Command) → IsAskedBy words asked → Means asked command
    → IsCommandOf words command
answers words (asks.Replay text) command is means = go text is (replay_means text command means)
  where
    go : (text : Option (Bor (List ℕ))) → IsAskedBy words (asks.Replay text)
        → (threshold : ℕ) × (command ≡ commands.Replay threshold) × MeansThreshold text threshold → IsCommandOf words command
    go None is (threshold, this, means) = subst (IsCommandOf words) (sym this) (default is means)
    go (Some text) (inl is) (threshold, this, means) = subst (IsCommandOf words) (sym this) (apart text.now is means)
    go (Some text) (inr is) (threshold, this, means) = subst (IsCommandOf words) (sym this) (joined text.now is means)
answers words (asks.Load seed_text count_text) command is means =
    let m = load_means seed_text count_text command means in
    subst (IsCommandOf words) (sym m.2) (record {
      seed_text = seed_text.now;
      count_text = count_text.now;
      words_are = is;
      seed_is = m.3;
      count_is = m.4;
    })
answers words (asks.Alone command) other is means = subst (IsCommandOf words) (sym means) (alone_is words is.0 command is.1 is.2)

-- the same threshold, whichever way it stands in the words
threshold_means : (words : List (List ℕ)) (text : Option (Bor (List ℕ))) (threshold : ℕ) → IsAskedBy words (asks.Replay text)
    → AsksToReplay words threshold → MeansThreshold text threshold
threshold_means words None threshold is (default are means) = means
threshold_means words None threshold is (apart other are means) = cc
threshold_means words None threshold is (joined other are means) = cc
threshold_means words (Some text) threshold (inl is) (default are means) = cc
threshold_means words (Some text) threshold (inl is) (apart other are means) =
    let same : text.now ≡ other = cc in
    subst (λ t. IsThreshold t threshold) (sym same) means
threshold_means words (Some text) threshold (inl is) (joined other are means) = cc
threshold_means words (Some text) threshold (inr is) (default are means) = cc
threshold_means words (Some text) threshold (inr is) (apart other are means) = cc
threshold_means words (Some text) threshold (inr is) (joined other are means) =
    let same : text.now ≡ other = cc in
    subst (λ t. IsThreshold t threshold) (sym same) means

-- a replay is not one word alone, whatever its threshold, and no load
no_alone : (words : List (List ℕ)) (text : Option (Bor (List ℕ))) (word : List ℕ) (command : Command) → IsAskedBy words (asks.Replay text)
    → words ≡ word ∷ [] → command_alone word ≡ Some command → ⊥
no_alone words None word command is are alone =
    let same : word ≡ codes "replay" = cc (is, are) in
    let bad : Some command ≡ None = sym alone ∙ ap command_alone same in cc
no_alone words (Some text) word command (inl is) are alone = cc (is, are)
no_alone words (Some text) word command (inr is) are alone = cc (is, are)

no_load : (words : List (List ℕ)) (text : Option (Bor (List ℕ))) (seed batches : ℕ) → IsAskedBy words (asks.Replay text)
    → AsksToLoad words seed batches → ⊥
no_load words None seed batches is load = cc (is, load.words_are)
no_load words (Some text) seed batches (inl is) load = cc (is, load.words_are)
no_load words (Some text) seed batches (inr is) load = cc (is, load.words_are)

of_sort : (words : List (List ℕ)) (asked : Asked) (command : Command) → IsAskedBy words asked → IsCommandOf words command → Sort words command
    → Means asked command
of_sort words (asks.Replay text) _ is which (replays threshold replay) = threshold_means words text threshold is replay
of_sort words (asks.Replay text) _ is which (loads seed batches load) = absurd (no_load words text seed batches is load)
of_sort words (asks.Replay text) _ is which (stands word command are alone) = absurd (no_alone words text word command is are alone)
of_sort words (asks.Load seed_text count_text) _ is which (replays threshold (default are means)) = cc (is, are)
of_sort words (asks.Load seed_text count_text) _ is which (replays threshold (apart other are means)) = cc (is, are)
of_sort words (asks.Load seed_text count_text) _ is which (replays threshold (joined other are means)) = cc (is, are)
of_sort words (asks.Load seed_text count_text) _ is which (loads seed batches load) =
    let same : seed_text.now ≡ load.seed_text = cc (is, load.words_are) in
    let other : count_text.now ≡ load.count_text = cc (is, load.words_are) in
    (subst (λ t. IsSeed t seed) (sym same) load.seed_is, subst (λ t. IsCount t batches) (sym other) load.count_is)
of_sort words (asks.Load seed_text count_text) _ is which (stands word command are alone) = cc (is, are)
of_sort words (asks.Alone named) command is which sorted = one_command words command named which (alone_is words is.0 named is.1 is.2)

pub means_of : (words : List (List ℕ)) (asked : Asked) (command : Command) → IsAskedBy words asked → IsCommandOf words command
    → Means asked command
means_of words asked command is which = of_sort words asked command is which (sort words command which)

-- ---- what the call answers

pub read : (words : List (List ℕ)) (parsed : Option Asked) (asked : Asked) (command : Option Command) (result : Result Command WordsFault)
    → parsed ≡ Some asked → IfSome parsed (IsAskedBy words) → IfSome command (Means asked) → result ≡ ok_or command faults.Usage
    → IfOk result (IsCommandOf words)
read words parsed asked None result is asks means gives = subst (λ r. IfOk r (IsCommandOf words)) (sym gives) tt
read words parsed asked (Some command) result is asks means gives =
    subst (λ r. IfOk r (IsCommandOf words)) (sym gives) (answers words asked command (subst (λ p. IfSome p (IsAskedBy words)) is asks) means)

pub refused : (words : List (List ℕ)) (parsed : Option Asked) (asked : Asked) (command : Option Command) (result : Result Command WordsFault)
    → parsed ≡ Some asked → IfSome parsed (IsAskedBy words) → IfNone command ((other : Command) → Means asked other → ⊥)
    → result ≡ ok_or command faults.Usage → result ≡ Err faults.Usage → IsNoCommand words
refused words parsed asked None result is asks none gives err other command =
    none other (means_of words asked other (subst (λ p. IfSome p (IsAskedBy words)) is asks) command)
refused words parsed asked (Some command) result is asks none gives err other which = cc
