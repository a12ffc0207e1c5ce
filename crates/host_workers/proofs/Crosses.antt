-- What goes to threads.
use denote.Param.{param}
use denote.Param.Send.{IsSend, IsSync, sendable}
use denote.RattleType.{RattleType}
use denote.Ref.{NamedLft}
use denote.Struct.Field.{mut_slice_field, shr_ref_field}
use denote.Struct.Tuple.{TupleAt}
use Rattle.std.proofs.Common.{ℕ, List, [], ◌∷◌}
use Rattle.std.proofs.Crossing.{crosses}
use Rattle.image_depot.proofs.depot.Depot.TheSendSync as depot
use Rattle.fork_board.proofs.Crosses.{board_sync, pass_send}
use Rattle.page_claims.proofs.claims.ClaimPass.TheSendSync as claim_pass
use Rattle.page_claims.proofs.claims.Claims.TheSendSync as claims
use Rattle.board_worker.specs.contracts.shared.Shared as Shared
use Rattle.host_workers.specs.contracts.state.State as State
use Rattle.board_worker.proofs.shared.Settings.TheSendSync as settings

state_send : IsSend State.the_row
state_send = search (sendable, pass_send, claim_pass.the_send) depth 40

shared_sync : (ℓ : NamedLft) (G : RattleType) → IsSync G → IsSync (Shared.the_row ℓ G)
shared_sync ℓ G g = search (sendable, crosses, board_sync, claims.the_sync, depot.the_sync, settings.the_sync) depth 40

-- what the closure takes along that lets the other workers work
pub rest_send : (name : List ℕ) (runtime all inside states wires : NamedLft) (R W G : RattleType)
    → IsSync (param 0 R) → IsSend (param 1 W) → IsSync (param 2 G)
    → IsSend (TupleAt name (
    (shr_ref_field runtime (param 0 R) tt).row ∷ (shr_ref_field all (Shared.the_row inside (param 2 G)) tt).row
    ∷ (mut_slice_field states State.the_row tt).row ∷ (mut_slice_field wires (param 1 W) tt).row ∷ []))
rest_send name ℓ ℓ₁ ℓ₂ ℓ₃ ℓ₄ R W G r w g = search (shared_sync, state_send, sendable) depth 60
