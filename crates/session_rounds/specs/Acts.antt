-- What the lines of a session do to it (docs/formats/program.md, "The run of a script").
use Rattle.std.specs.Prelude.{◌≡◌, ◌⊎◌, ℕ, ◌+◌, List, [], ◌∷◌, length, IsTrue}
use Rattle.batch_repr.specs.declared.limits.TheConstants.{BATCHES_MAX}
use Rattle.session_replies.specs.declared.script.Act.{Act}
use Rattle.session_replies.specs.declared.script.Act.TheVariants.{Commit, Get}
use Rattle.session_replies.specs.declared.replies.Said.{Said}
use Rattle.session_replies.specs.declared.replies.Said.TheVariants.{Committed, Unsynced, Dead, Limit, Got}
use Rattle.session_replies.specs.Legal.{Replied}
use Rattle.commit_pipeline.specs.Openings.{Opening}
use Rattle.commit_pipeline.specs.declared.standing.Standing.{Standing}
use Rattle.commit_pipeline.specs.Standings.{KnowsDeath, Idles}
use Rattle.commit_pipeline.specs.Commits.{Commits, CommitsWell, SeesExhausted, TellsRead}

-- what an act does to its session, by what is said of it
abbrev pub Does : Opening → Standing → Act → Said → Standing → Type 0
Does opening s (Commit sync entries) (Committed first count synced) s' =
    CommitsWell entries sync (record { first = first; count = count; synced = synced }) s s'
Does opening s (Commit sync entries) (Unsynced first count) s' = Commits entries first count s s' × (s'.dead ≡ s.dead + 1) × IsTrue sync
Does opening s (Commit sync entries) Dead s' = Idles s s' × (s'.dead ≡ s.dead + 1)
Does opening s (Commit sync entries) Limit s' =
    Idles s s' × (s'.dead ≡ s.dead) × (KnowsDeath s → ⊥)
    × ((length s'.seen ≡ BATCHES_MAX) ⊎ ((next : ℕ) × SeesExhausted opening entries next s s'))
Does opening s (Commit sync entries) (Got told value visible) s' = ⊥
Does opening s (Get key) (Got told value visible) s' =
    (told ≡ key) × TellsRead opening key (record { visible = visible; value = value }) s s'
Does opening s (Get key) (Committed first count synced) s' = ⊥
Does opening s (Get key) (Unsynced first count) s' = ⊥
Does opening s (Get key) Dead s' = ⊥
Does opening s (Get key) Limit s' = ⊥

-- The lines are answered one after another.
unfoldable pub DoesLines : Opening → Standing → List Replied → Standing → Type 0
DoesLines opening s [] s' = s' ≡ s
DoesLines opening s (reply ∷ replies) s' =
    (mid : Standing) × Does opening s reply.line.act reply.said mid × DoesLines opening mid replies s'
