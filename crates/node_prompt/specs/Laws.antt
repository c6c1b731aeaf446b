-- What follows of the table of commands. Own profile.
use Rattle.std.specs.Prelude.{ℕ, ◌≡◌, ◌≤◌, ◌⊎◌, ◌↔◌, List, [], ◌∷◌, ◌++◌, length, map, Some, Ok, IfSome, codes}
use Rattle.ax_address.specs.Callsign.{Callsign, call_at}
use Rattle.node_prompt.specs.declared.action.Action.TheVariants.{Show}
use Rattle.node_prompt.specs.declared.sight.Sight.TheVariants.{RoutesTo}
use Rattle.node_prompt.specs.declared.trouble.Trouble.{Trouble}
use Rattle.node_prompt.specs.declared.view.View.{View}
use Rattle.node_prompt.specs.Commands.{capital, words_of, wanted}
use Rattle.node_prompt.specs.Replies.{Prompt, prefix_of, ended, action_for, said, view_text, trying, connected, refused, disconnected}

-- the line is NODES and a call, or N and a call, in letters of any case
pub record AsksForRoutes (line : List ℕ) (dest : Callsign) : Type 0 where
  pub first : List ℕ
  pub second : List ℕ
  pub fits : length line ≤ 80
  pub words : words_of (map capital line) ≡ first ∷ second ∷ []
  pub named : (first ≡ codes "NODES") ⊎ (first ≡ codes "N")
  pub call : call_at second ≡ Ok dest

-- exactly in such a line the routes to this destination are wanted
abbrev pub WantedIsAskedFor : Type 0
WantedIsAskedFor = (line : List ℕ) (dest : Callsign) → (wanted line ≡ Some dest) ↔ AsksForRoutes line dest

-- for exactly such a line they are shown
abbrev pub RoutesAreAskedFor : Type 0
RoutesAreAskedFor = (p : Prompt) (line : List ℕ) (dest : Callsign) →
    (action_for p line ≡ Show (RoutesTo dest)) ↔ AsksForRoutes line dest

-- letter case means nothing
abbrev pub CaseIsNothing : Type 0
CaseIsNothing = (p : Prompt) (line other : List ℕ) → map capital line ≡ map capital other → action_for p line ≡ action_for p other

-- the text begins with the node's names, and ends with CR
abbrev pub IsReply : Prompt → List ℕ → Type 0
IsReply p text = (line : List ℕ) × (text ≡ prefix_of p ++ ended line)

-- so is every text that goes to a user
pub record AllIsReply : Type 0 where
  pub line : (p : Prompt) (line : List ℕ) → IfSome (said (action_for p line)) (IsReply p)
  pub show : (p : Prompt) (view : View) → IsReply p (view_text p view).items
  pub trying : (p : Prompt) (dest : Callsign) → IsReply p (trying p dest).items
  pub connected : (p : Prompt) (dest : Callsign) → IsReply p (connected p dest).items
  pub refused : (p : Prompt) (dest : Callsign) (why : Trouble) → IsReply p (refused p dest why).items
  pub ended : (p : Prompt) (dest : Callsign) → IsReply p (disconnected p dest).items
