-- What is said of a journal by its current segment, the last one.
use Rattle.std.proofs.Common.{◌≡◌, ◌⊎◌, ◌-◌, ◌<◌, List, [], ◌∷◌, ◌++◌, length, take, Some, sym, subst}
use Rattle.std.specs.Prelude.{slice_get}
use Rattle.log_writer.specs.declared.phase.Phase.TheVariants.{Broken}
use Rattle.log_writer.specs.Writer.{Writer}
use Rattle.failover_writer.specs.State.{State, len, acked}
use Rattle.failover_writer.specs.Stepping.{IsBehind, WantsMore, HasWork}
use Rattle.failover_writer.proofs.Lists.{last_split}

pub wants_last : (state : State) (earlier : List Writer) (current : Writer) → WantsMore state (current ∷ []) → WantsMore state (earlier ++ current ∷ [])
wants_last state [] current wants = wants
wants_last state (w ∷ []) current wants = wants
wants_last state (w ∷ v ∷ earlier) current wants = wants_last state (v ∷ earlier) current wants

pub last_wants : (state : State) (earlier : List Writer) (current : Writer) → WantsMore state (earlier ++ current ∷ []) → WantsMore state (current ∷ [])
last_wants state [] current wants = wants
last_wants state (w ∷ []) current wants = wants
last_wants state (w ∷ v ∷ earlier) current wants = last_wants state (v ∷ earlier) current wants

-- the current segment has something to do
abbrev pub HasMore : State → Writer → Type 0
HasMore state w = (w.phase ≡ Broken) ⊎ ((w.written < len state) ⊎ (acked state < state.want))

pub wants_current : (state : State) (current : Writer) → slice_get state.segments (length state.segments - 1) ≡ Some current
    → HasMore state current → WantsMore state state.segments
wants_current state current is more = subst (λ (ws : List Writer). WantsMore state ws) (sym (last_split state.segments current is))
    (wants_last state (take (length state.segments - 1) state.segments) current more)

pub current_wants : (state : State) (current : Writer) → slice_get state.segments (length state.segments - 1) ≡ Some current
    → WantsMore state state.segments → HasMore state current
current_wants state current is wants = last_wants state (take (length state.segments - 1) state.segments) current
    (subst (λ (ws : List Writer). WantsMore state ws) (last_split state.segments current is) wants)

pub works_by : (state seen : State) (current : Writer) → state ≡ seen → slice_get state.segments (length state.segments - 1) ≡ Some current
    → IsBehind seen → HasMore state current → HasWork seen
works_by state seen current same is behind more = (behind, subst (λ (s : State). WantsMore s s.segments) same (wants_current state current is more))

pub more_by : (state seen : State) (current : Writer) → state ≡ seen → slice_get state.segments (length state.segments - 1) ≡ Some current
    → HasWork seen → HasMore state current
more_by state seen current same is work = current_wants state current is (subst (λ (s : State). WantsMore s s.segments) (sym same) work.1)
