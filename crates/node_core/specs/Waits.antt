-- What waits after an input: only what the side that it goes to has no room for. Own profile.
use Rattle.std.specs.Prelude.{ℕ, ◌≡◌, ◌<◌, Bool, true, false, not, ◌&&◌, ◌||◌, nat_lt, length, Some}
use Rattle.circuit_table.specs.Standing as answers
use Rattle.node_model.specs.declared.circuit.Circuit.{Circuit}
use Rattle.node_model.specs.declared.stage.Stage.TheVariants.{AtPrompt, Connected}
use Rattle.node_model.specs.declared.user.User.{User}
use Rattle.node_model.specs.declared.user.User.TheVariants.{AtEnd, AtLink}
use Rattle.node_model.specs.Bridging.{may_close}
use Rattle.node_model.specs.Links as links
use Rattle.node_model.specs.Serving.{is_over}
use Rattle.node_model.specs.Sessions.{Session, circuit_of}
use Rattle.node_model.specs.States.{State}
use Rattle.node_model.specs.Users.{can_give, can_pass_on, end_at, end_has_room, has_taken}

-- a message that came waits at an end
abbrev pub has_message : ℕ → State → Bool
has_message id n = has_taken (answers.take_answer (end_at id n))

abbrev pub has_text_at : User → State → Bool
has_text_at (AtEnd id) n = has_message id n
has_text_at (AtLink peer) n = links.has_text peer n.links

-- a text of the user waits: what is left of one that was taken, or one that wasn't
abbrev pub has_text : Session → State → Bool
has_text s n = nat_lt 0 (length s.rest) || (not s.left && has_text_at s.user n)

-- Nothing waits for a session but for want of room. `can_give` and `can_pass_on` are false where the user is still told things and its
-- side has no room.
pub record WaitsForRoom (n : State) (s : Session) : Type 0 where
  pub reply : 0 < length s.replies → can_give s n ≡ false
  -- a text of a user at the prompt waits, since a line of it goes to the user's side
  pub line : s.stage ≡ AtPrompt → has_text s n ≡ true → can_give s n ≡ false
  pub message : (c : Circuit) → circuit_of s.stage ≡ Some c → has_message c.id n ≡ true → can_pass_on s c.id n ≡ false
  -- (none waits for one that was closed: `IsClosedLast`)
  pub text : (c : Circuit) → s.stage ≡ Connected c → c.closed ≡ false → has_text s n ≡ true → end_has_room c.id n ≡ false
  -- a circuit is closed once its user is gone and nothing is left to be written
  pub circuit : (c : Circuit) → circuit_of s.stage ≡ Some c → may_close s c n ≡ false
  pub goes_on : is_over n s ≡ false
