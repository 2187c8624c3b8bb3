-- The bytes are one script at most: each line says one thing at most, and what is said is cut into rounds in one way.
use Rattle.std.proofs.Common.{◌≡◌, ◌≢◌, inl, inr, ℕ, ◌<◌, arith, Bool, true, false, List, [], ◌∷◌, ◌++◌, get_or, Option, Some, None, refl, sym, ap, ◌∙◌, subst}
use Rattle.std.specs.Prelude.{codes, slice_get, ◌==◌, ◌||◌}
use Rattle.std.specs.Fmt.{decimal}
use Rattle.std.specs.List.{AllByRecursion, slice_split, onto_first}
use Rattle.std.specs.Option.{option_to_list}
use Rattle.std.proofs.lemmas.Fmt.{decimal_injective}
use Rattle.std.proofs.lemmas.List.Splits.{slice_split-cons_no}
use Rattle.batch_repr.specs.declared.limits.TheConstants.{SESSIONS_MAX}
use Rattle.wal_base.specs.declared.entry.Entry.{Entry}
use Rattle.wal_base.specs.declared.entry.Entry.TheVariants.{Set, Delete, Note, RangeDelete}
use Rattle.disk_face.specs.declared.Side.{Side}
use Rattle.disk_face.specs.declared.Side.TheVariants.{Primary, Secondary}
use Rattle.session_replies.specs.declared.script.Act.{Act}
use Rattle.session_replies.specs.declared.script.Act.TheVariants.{Commit, Get}
use Rattle.session_replies.specs.declared.script.Script.{Script}
use Rattle.session_script.specs.declared.saying.Saying.{Saying}
use Rattle.session_script.specs.declared.saying.Saying.TheVariants as sayings
use Rattle.line_words.specs.Words.{words_of}
use Rattle.session_script.specs.Words.{parts_of, SpellsOneEntry, SpellEntries}
use Rattle.session_script.specs.Lines.{sync_word, side_letter, AsksToAct, WordsSay, SaysNothing, LineSays}
use Rattle.session_script.specs.Script.{LinesSay, rounds_of, sessions_of, halt_if, AreScript}

-- ---- entries

pub spells_one : (part : List (List ℕ)) (a b : Entry) → SpellsOneEntry a part → SpellsOneEntry b part → a ≡ b
spells_one part (Set k v) (Set l w) a b = let e = sym a.0 ∙ b.0 in let keys : k ≡ l = cc in let values : v ≡ w = cc in λ i. Set (keys i) (values i)
spells_one part (Set k v) (Delete l) a b = let e = sym a.0 ∙ b.0 in absurd cc
spells_one part (Set k v) (Note t) a b = let e = sym a.0 ∙ b.0 in absurd cc
spells_one part (Delete k) (Set l w) a b = let e = sym a.0 ∙ b.0 in absurd cc
spells_one part (Delete k) (Delete l) a b = let e = sym a.0 ∙ b.0 in let keys : k ≡ l = cc in ap Delete keys
spells_one part (Delete k) (Note t) a b = let e = sym a.0 ∙ b.0 in absurd cc
spells_one part (Note s) (Set l w) a b = let e = sym a.0 ∙ b.0 in absurd cc
spells_one part (Note s) (Delete l) a b = let e = sym a.0 ∙ b.0 in absurd cc
spells_one part (Note s) (Note t) a b = let e = sym a.0 ∙ b.0 in let texts : s ≡ t = cc in ap Note texts
spells_one part (Set k v) (RangeDelete l w) a b = let e = sym a.0 ∙ b.0 in absurd cc
spells_one part (Delete k) (RangeDelete l w) a b = let e = sym a.0 ∙ b.0 in absurd cc
spells_one part (Note s) (RangeDelete l w) a b = let e = sym a.0 ∙ b.0 in absurd cc
spells_one part (RangeDelete k v) (Set l w) a b = let e = sym a.0 ∙ b.0 in absurd cc
spells_one part (RangeDelete k v) (Delete l) a b = let e = sym a.0 ∙ b.0 in absurd cc
spells_one part (RangeDelete k v) (Note t) a b = let e = sym a.0 ∙ b.0 in absurd cc
spells_one part (RangeDelete k v) (RangeDelete l w) a b = let e = sym a.0 ∙ b.0 in
    let starts : k ≡ l = cc in let ends : v ≡ w = cc in λ i. RangeDelete (starts i) (ends i)

pub spell_one : (parts : List (List (List ℕ))) (a b : List Entry) → SpellEntries a parts → SpellEntries b parts → a ≡ b
unfolding SpellEntries
spell_one [] [] [] a b = refl
spell_one [] [] (y ∷ ys) a b = absurd b
spell_one [] (x ∷ xs) ys a b = absurd a
spell_one (p ∷ parts) [] ys a b = absurd a
spell_one (p ∷ parts) (x ∷ xs) [] a b = absurd b
spell_one (p ∷ parts) (x ∷ xs) (y ∷ ys) a b = λ i. spells_one p x y a.0 b.0 i ∷ spell_one parts xs ys a.1 b.1 i

-- ---- words

one_sync : (a b : Bool) → sync_word a ≡ sync_word b → a ≡ b
one_sync true true e = refl
one_sync true false e = absurd cc
one_sync false true e = absurd cc
one_sync false false e = refl

one_side : (a b : Side) → side_letter a ≡ side_letter b → a ≡ b
one_side Primary Primary e = refl
one_side Primary Secondary e = absurd (omega (arith, ap (λ (t : List ℕ). get_or t 0 0) e))
one_side Secondary Primary e = absurd (omega (arith, ap (λ (t : List ℕ). get_or t 0 0) e))
one_side Secondary Secondary e = refl

acts_one : (words : List (List ℕ)) (s t : ℕ) (a b : Act) → s < SESSIONS_MAX → t < SESSIONS_MAX → AsksToAct words s a → AsksToAct words t b → (s ≡ t) × (a ≡ b)
acts_one words s t (Commit x xs) (Commit y ys) low high a b =
    let e = sym a.words_are ∙ b.words_are in
    let digits : decimal s ≡ decimal t = cc in
    let syncs : sync_word x ≡ sync_word y = cc in
    let rests : a.rest ≡ b.rest = cc in
    let entries : xs ≡ ys = spell_one (parts_of a.rest) xs ys a.spelled (subst (λ (r : List (List ℕ)). SpellEntries ys (parts_of r)) (sym rests) b.spelled) in
    (decimal_injective s t (omega (arith, low)) (omega (arith, high)) digits, λ i. Commit (one_sync x y syncs i) (entries i))
acts_one words s t (Commit x xs) (Get k) low high a b = let e = sym a.words_are ∙ b.words_are in absurd cc
acts_one words s t (Get k) (Commit y ys) low high a b = let e = sym a.words_are ∙ b.words_are in absurd cc
acts_one words s t (Get k) (Get l) low high a b =
    let e = sym a.words_are ∙ b.words_are in
    let digits : decimal s ≡ decimal t = cc in
    let keys : k ≡ l = cc in
    (decimal_injective s t (omega (arith, low)) (omega (arith, high)) digits, ap Get keys)

says_one : (words : List (List ℕ)) (a b : Saying) → WordsSay words a → WordsSay words b → a ≡ b
says_one words (sayings.Does x) (sayings.Does y) a b = let both = acts_one words x.session y.session x.act y.act a.0 b.0 a.1 b.1 in λ i. sayings.Does
    (record { session = both.0 i; act = both.1 i })
says_one words (sayings.Does x) (sayings.Stalls y) a b = absurd (not_an_act x.act a.1)
  where
    not_an_act : (act : Act) → AsksToAct words x.session act → ⊥
    not_an_act (Commit sync entries) asks = let e = sym asks.words_are ∙ b.0 in cc
    not_an_act (Get key) asks = let e = sym asks.words_are ∙ b.0 in cc
says_one words (sayings.Does x) sayings.EndsRound a b = absurd (not_an_act x.act a.1)
  where
    not_an_act : (act : Act) → AsksToAct words x.session act → ⊥
    not_an_act (Commit sync entries) asks = let e = sym asks.words_are ∙ b in cc
    not_an_act (Get key) asks = let e = sym asks.words_are ∙ b in cc
says_one words (sayings.Does x) sayings.Halts a b = absurd (not_an_act x.act a.1)
  where
    not_an_act : (act : Act) → AsksToAct words x.session act → ⊥
    not_an_act (Commit sync entries) asks = let e = sym asks.words_are ∙ b in cc
    not_an_act (Get key) asks = let e = sym asks.words_are ∙ b in cc
says_one words (sayings.Stalls x) (sayings.Does y) a b = absurd (not_an_act y.act b.1)
  where
    not_an_act : (act : Act) → AsksToAct words y.session act → ⊥
    not_an_act (Commit sync entries) asks = let e = sym asks.words_are ∙ a.0 in cc
    not_an_act (Get key) asks = let e = sym asks.words_are ∙ a.0 in cc
says_one words (sayings.Stalls x) (sayings.Stalls y) a b =
    let e = sym a.0 ∙ b.0 in
    let sides : side_letter x.side ≡ side_letter y.side = cc in
    let digits : decimal x.polls ≡ decimal y.polls = cc in
    let polls : x.polls ≡ y.polls = decimal_injective x.polls y.polls (omega (arith, a.2)) (omega (arith, b.2)) digits in
    λ i. sayings.Stalls (record { side = one_side x.side y.side sides i; polls = polls i })
says_one words (sayings.Stalls x) sayings.EndsRound a b = let e = sym a.0 ∙ b in absurd cc
says_one words (sayings.Stalls x) sayings.Halts a b = let e = sym a.0 ∙ b in absurd cc
says_one words sayings.EndsRound (sayings.Does y) a b = absurd (not_an_act y.act b.1)
  where
    not_an_act : (act : Act) → AsksToAct words y.session act → ⊥
    not_an_act (Commit sync entries) asks = let e = sym asks.words_are ∙ a in cc
    not_an_act (Get key) asks = let e = sym asks.words_are ∙ a in cc
says_one words sayings.EndsRound (sayings.Stalls y) a b = let e = sym a ∙ b.0 in absurd cc
says_one words sayings.EndsRound sayings.EndsRound a b = refl
says_one words sayings.EndsRound sayings.Halts a b = let e = sym a ∙ b in absurd cc
says_one words sayings.Halts (sayings.Does y) a b = absurd (not_an_act y.act b.1)
  where
    not_an_act : (act : Act) → AsksToAct words y.session act → ⊥
    not_an_act (Commit sync entries) asks = let e = sym asks.words_are ∙ a in cc
    not_an_act (Get key) asks = let e = sym asks.words_are ∙ a in cc
says_one words sayings.Halts (sayings.Stalls y) a b = let e = sym a ∙ b.0 in absurd cc
says_one words sayings.Halts sayings.EndsRound a b = let e = sym a ∙ b in absurd cc
says_one words sayings.Halts sayings.Halts a b = refl

-- ---- lines

begins_with : (b : ℕ) (parts : List (List ℕ)) (word : List ℕ) (words : List (List ℕ)) → onto_first b parts ≡ word ∷ words → slice_get word 0 ≡ Some b
begins_with b [] word words e = let first : word ≡ b ∷ [] = cc in ap (λ (t : List ℕ). slice_get t 0) first
begins_with b (part ∷ parts) word words e = let first : word ≡ b ∷ part = cc in ap (λ (t : List ℕ). slice_get t 0) first

-- the first word of a comment begins with the comment's mark
first_of_comment : (line word : List ℕ) (words : List (List ℕ)) → slice_get line 0 ≡ Some 35 → words_of line ≡ word ∷ words → slice_get word 0 ≡ Some 35
unfolding words_of
first_of_comment [] word words mark e = absurd cc
first_of_comment (b ∷ line) word words mark e =
    let is : b ≡ 35 = cc in
    let uncut : (b == 32 || b == 9) ≡ false = ap (λ (n : ℕ). n == 32 || n == 9) is in
    begins_with b (slice_split (λ n. n == 32 || n == 9) line) word words (sym (slice_split-cons_no (λ n. n == 32 || n == 9) b line uncut) ∙ e)
    ∙ ap (λ (n : ℕ). Some n) is

no_word : (line word : List ℕ) (words : List (List ℕ)) (first : ℕ) → slice_get word 0 ≡ Some first → (first ≡ 35 → ⊥) → SaysNothing line
    → words_of line ≡ word ∷ words → ⊥
unfolding words_of
no_word line word words first starts other (inl none) e =
    let empty : [] ∷ [] ≡ word ∷ words = ap words_of (sym none) ∙ e in
    let word_is : word ≡ [] = cc in
    let never : None ≡ Some first = ap (λ (t : List ℕ). slice_get t 0) (sym word_is) ∙ starts in cc
no_word line word words first starts other (inr mark) e =
    let same : Some first ≡ Some 35 = sym starts ∙ first_of_comment line word words mark e in
    let is : first ≡ 35 = cc in other is

says_something : (line : List ℕ) (saying : Saying) → SaysNothing line → WordsSay (words_of line) saying → ⊥
says_something line (sayings.Does x) nothing asks = go x.act asks.1
  where
    go : (act : Act) → AsksToAct (words_of line) x.session act → ⊥
    go (Commit sync entries) a = no_word line (codes "commit") (decimal x.session ∷ sync_word sync ∷ a.rest) 99 refl (λ e. omega (arith, e)) nothing a.words_are
    go (Get key) a = no_word line (codes "get") (decimal x.session ∷ key ∷ []) 103 refl (λ e. omega (arith, e)) nothing a.words_are
says_something line (sayings.Stalls x) nothing asks = no_word line (codes "stall") (side_letter x.side ∷ decimal x.polls ∷ []) 115 refl
    (λ e. omega (arith, e)) nothing asks.0
says_something line sayings.EndsRound nothing asks = no_word line (codes "round") [] 114 refl (λ e. omega (arith, e)) nothing asks
says_something line sayings.Halts nothing asks = no_word line (codes "halt") [] 104 refl (λ e. omega (arith, e)) nothing asks

line_says_one : (line : List ℕ) (a b : Option Saying) → LineSays line a → LineSays line b → a ≡ b
line_says_one line None None a b = refl
line_says_one line None (Some s) a b = absurd (says_something line s a b)
line_says_one line (Some s) None a b = absurd (says_something line s b a)
line_says_one line (Some s) (Some t) a b = ap (λ (x : Saying). Some x) (says_one (words_of line) s t a b)

pub lines_say_one : (lines : List (List ℕ)) (a b : List Saying) → LinesSay lines a → LinesSay lines b → a ≡ b
lines_say_one [] a b x y = x ∙ sym y
lines_say_one (line ∷ lines) a b x y =
    x.4 ∙ ap (λ (said : Option Saying). option_to_list said ++ x.1) (line_says_one line x.0 y.0 x.2 y.2)
    ∙ ap (λ (rest : List Saying). option_to_list y.0 ++ rest) (lines_say_one lines x.1 y.1 x.3 y.3) ∙ sym y.4

-- ---- the halt

-- what is said before a halt, and whether there is one, are one
halt_apart : (xs ys : List Saying) (a b : Bool) → AllByRecursion (λ saying. saying ≢ sayings.Halts) xs → AllByRecursion (λ saying. saying ≢ sayings.Halts) ys
    → xs ++ halt_if a ≡ ys ++ halt_if b → (xs ≡ ys) × (a ≡ b)
halt_apart [] [] true true p q e = (refl, refl)
halt_apart [] [] true false p q e = absurd cc
halt_apart [] [] false true p q e = absurd cc
halt_apart [] [] false false p q e = (refl, refl)
halt_apart [] (y ∷ ys) true b p q e = let is : sayings.Halts ≡ y = cc in absurd (q.0 (sym is))
halt_apart [] (y ∷ ys) false b p q e = absurd cc
halt_apart (x ∷ xs) [] a true p q e = let is : x ≡ sayings.Halts = cc in absurd (p.0 is)
halt_apart (x ∷ xs) [] a false p q e = absurd cc
halt_apart (x ∷ xs) (y ∷ ys) a b p q e =
    let first : x ≡ y = cc in
    let more : xs ++ halt_if a ≡ ys ++ halt_if b = cc in
    let rest = halt_apart xs ys a b p.1 q.1 more in
    (λ i. first i ∷ rest.0 i, rest.1)

pub one_script : (lines : List (List ℕ)) (a b : Script) → AreScript lines a → AreScript lines b → a ≡ b
one_script lines a b x y =
    let both = halt_apart x.said y.said a.halted b.halted x.going y.going
    (lines_say_one lines (x.said ++ halt_if a.halted) (y.said ++ halt_if b.halted) x.says y.says) in
    let rounds : a.rounds ≡ b.rounds = x.rounds ∙ ap rounds_of both.0 ∙ sym y.rounds in
    let sessions : a.sessions ≡ b.sessions = x.sessions ∙ ap sessions_of both.0 ∙ sym y.sessions in
    λ i. record { rounds = rounds i; halted = both.1 i; sessions = sessions i }
