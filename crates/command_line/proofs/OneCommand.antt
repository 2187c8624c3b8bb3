-- Words are one command at most.
use Rattle.std.proofs.Common.{◌≡◌, ◌∙◌, ℕ, List, [], ◌∷◌, Some, None, codes, refl, sym, ap}
use Rattle.std.specs.Str.Parse.{digits_value}
use Rattle.command_line.specs.declared.command.Command.{Command}
use Rattle.command_line.specs.declared.command.Command.TheVariants as commands
use Rattle.command_line.specs.Numbers.{IsNumberIn}
use Rattle.command_line.specs.Commands.{AsksToReplay, default, apart, joined, AsksToLoad, WordsAreOneCommand}
use Rattle.command_line.specs.Program.{command_alone}
use Rattle.command_line.proofs.Alone.{Sort, replays, loads, stands, sort}

-- a text is one number at most
one_number : (least most : ℕ) (text other : List ℕ) (n m : ℕ) → text ≡ other → IsNumberIn least most text n → IsNumberIn least most other m → n ≡ m
one_number least most text other n m same a b = a.number.value ∙ ap (digits_value 10) same ∙ sym b.number.value

one_threshold : (words : List (List ℕ)) (n m : ℕ) → AsksToReplay words n → AsksToReplay words m → n ≡ m
one_threshold words n m (default is e) (default are f) = e ∙ sym f
one_threshold words n m (default is e) (apart other are b) = cc
one_threshold words n m (default is e) (joined other are b) = cc
one_threshold words n m (apart text is a) (default are f) = cc
one_threshold words n m (apart text is a) (apart other are b) = let same : text ≡ other = cc in one_number _ _ text other n m same a b
one_threshold words n m (apart text is a) (joined other are b) = cc
one_threshold words n m (joined text is a) (default are f) = cc
one_threshold words n m (joined text is a) (apart other are b) = cc
one_threshold words n m (joined text is a) (joined other are b) = let same : text ≡ other = cc in one_number _ _ text other n m same a b

-- a word alone is no replay and no load
pub alone_replay : (words : List (List ℕ)) (word : List ℕ) (command : Command) (n : ℕ) → words ≡ word ∷ [] → command_alone word ≡ Some command
    → AsksToReplay words n → ⊥
alone_replay words word command n are is (default other e) =
    let same : word ≡ codes "replay" = cc (are, other) in
    let bad : Some command ≡ None = sym is ∙ ap command_alone same in cc
alone_replay words word command n are is (apart text other a) = cc (are, other)
alone_replay words word command n are is (joined text other a) = cc (are, other)

replay_load : (words : List (List ℕ)) (n seed batches : ℕ) → AsksToReplay words n → AsksToLoad words seed batches → ⊥
replay_load words n seed batches (default is e) load = cc (is, load.words_are)
replay_load words n seed batches (apart text is a) load = cc (is, load.words_are)
replay_load words n seed batches (joined text is a) load = cc (is, load.words_are)

one_of_sorts : (words : List (List ℕ)) (a b : Command) → Sort words a → Sort words b → a ≡ b
one_of_sorts words _ _ (replays n a) (replays m b) = ap commands.Replay (one_threshold words n m a b)
one_of_sorts words _ _ (replays n a) (loads seed batches b) = absurd (replay_load words n seed batches a b)
one_of_sorts words _ _ (replays n a) (stands word command are is) = absurd (alone_replay words word command n are is a)
one_of_sorts words _ _ (loads seed batches a) (replays m b) = absurd (replay_load words m seed batches b a)
one_of_sorts words _ _ (loads seed batches a) (loads other_seed others b) =
    let same_seed : a.seed_text ≡ b.seed_text = cc (a.words_are, b.words_are) in
    let same_count : a.count_text ≡ b.count_text = cc (a.words_are, b.words_are) in
    let seeds : seed ≡ other_seed = one_number _ _ a.seed_text b.seed_text seed other_seed same_seed a.seed_is b.seed_is in
    let counts : batches ≡ others = one_number _ _ a.count_text b.count_text batches others same_count a.count_is b.count_is in
    rw (seeds, counts) refl
one_of_sorts words _ _ (loads seed batches a) (stands word command are is) = cc (are, a.words_are)
one_of_sorts words _ _ (stands word command are is) (replays m b) = absurd (alone_replay words word command m are is b)
one_of_sorts words _ _ (stands word command are is) (loads seed batches b) = cc (are, b.words_are)
one_of_sorts words _ _ (stands word command are is) (stands other_word other_command others other_is) =
    let same : word ≡ other_word = cc (are, others) in
    let told : Some command ≡ Some other_command = sym is ∙ ap command_alone same ∙ other_is in cc

pub one_command : WordsAreOneCommand
one_command words a b one other = one_of_sorts words a b (sort words a one) (sort words b other)
