-- A journal that died stays dead, as far as replies tell it (docs/formats/program.md, "Which replies are legal").
use Rattle.std.specs.Prelude.{ℕ, Bool, true, false, ◌||◌, List, [], ◌∷◌, IsTrue, IsFalse}
use Rattle.std.specs.List.{list_any}
use Rattle.session_replies.specs.declared.replies.Said.{Said}
use Rattle.session_replies.specs.declared.replies.Said.TheVariants.{Committed, Unsynced, Dead, Limit, Got}
use Rattle.session_replies.specs.Legal.{Replied, replies_of_session}

-- whether the journal is dead once this is said
abbrev pub shows_death : Said → Bool
shows_death (Committed first count synced) = false
shows_death (Unsynced first count) = true
shows_death Dead = true
shows_death Limit = false
shows_death (Got key value visible) = false

-- whether only a journal that lived as the line was asked for is answered so
abbrev pub needs_life : Said → Bool
needs_life (Committed first count synced) = true
needs_life (Unsynced first count) = true
needs_life Dead = false
needs_life Limit = true
needs_life (Got key value visible) = false

-- The journal was seen dead before these replies of one session, or was not. After that no reply needs its life.
unfoldable pub DeathLastsInTurn : Bool → List Replied → Type 0
DeathLastsInTurn dead [] = Unit {0}
DeathLastsInTurn dead (reply ∷ replies) =
    (IsTrue dead → IsFalse (needs_life reply.said)) × DeathLastsInTurn (dead || shows_death reply.said) replies

-- The journal was seen dead before these rounds, or was not. What a session sees in a round, all sessions have seen after it.
unfoldable pub DeathLastsFrom : Bool → List (List Replied) → Type 0
DeathLastsFrom dead [] = Unit {0}
DeathLastsFrom dead (replies ∷ rounds) =
    ((session : ℕ) → DeathLastsInTurn dead (replies_of_session session replies))
    × DeathLastsFrom (dead || list_any (λ (r : Replied). shows_death r.said) replies) rounds

-- Once a reply shows that the journal is dead, no later one of its session, and none of a later round, needs a journal that lives.
abbrev pub DeathLasts : List (List Replied) → Type 0
DeathLasts rounds = DeathLastsFrom false rounds
