-- What the table of commands comes to.
use Rattle.std.proofs.Common.{◌≡◌, ◌∙◌, ◌++◌, ℕ, refl, sym, ap, inl, inr, List, [], ◌∷◌, length, map, append_assoc, append-nil, arith, Bool, true, false, cond}
use Rattle.std.specs.Prelude.{Option, Some, None, Result, Ok, Err, IfSome, ◌⊎◌, ◌==◌, ◌||◌, nat_lt, codes}
use Rattle.std.specs.List.{flat_map}
use Rattle.std.specs.Str.{bytes_eq}
use Rattle.std.specs.Fmt.{decimal}
use Rattle.std.proofs.lemmas.Bool.Decides.{nat_tests}
use Rattle.std.proofs.lemmas.List.{length-map}
use Rattle.std.proofs.lemmas.Slice.Eq.{bytes_eq-Decides}
use Rattle.ax_address.specs.Callsign.{Callsign, call_at}
use Rattle.ax_address.specs.Alias as aliases
use Rattle.ax_address.specs.Callsign as calls
use Rattle.ax_address.specs.declared.call.CallRefusal.{CallRefusal}
use Rattle.route_table.specs.declared.route.Route.{Route}
use Rattle.node_prompt.specs.declared.action.Action.TheVariants.{Show}
use Rattle.node_prompt.specs.declared.sight.Sight.TheVariants as sight
use Rattle.node_prompt.specs.declared.trouble.Trouble.{Trouble}
use Rattle.node_prompt.specs.declared.trouble.Trouble.TheVariants.{NoRoute, Own, Full, Busy, Failure}
use Rattle.node_prompt.specs.declared.view.View.{View}
use Rattle.node_prompt.specs.declared.view.View.TheVariants as see
use Rattle.node_prompt.specs.declared.command.Command.{Command}
use Rattle.node_prompt.specs.declared.command.Command.TheVariants as ask
use Rattle.node_prompt.specs.declared.line_refusal.LineRefusal.{LineRefusal}
use Rattle.node_prompt.specs.declared.line_refusal.LineRefusal.TheVariants.{TooLong, UnknownCommand, WrongWords, BadCall}
use Rattle.node_prompt.specs.declared.command.Verb.{Verb}
use Rattle.node_prompt.specs.declared.command.Verb.TheVariants.{Connect, Nodes, Routes, Users, Info, Bye, Help}
use Rattle.node_prompt.specs.Commands.{capital, words_of, is_either, verb_of, about, command_from, command_of, command_at, wanted_by, wanted}
use Rattle.node_prompt.specs.Replies.{Prompt, prefix_of, ended}
use Rattle.node_prompt.specs.Replies as replies
use Rattle.node_prompt.specs.Laws.{AsksForRoutes, WantedIsAskedFor, RoutesAreAskedFor, IsReply, AllIsReply, CaseIsNothing}

-- ---- which line asks for routes

abbrev maybe_verb : Verb → Option Verb
maybe_verb v = Some v

is_nodes : (c n r u i b h : Bool) → cond c (Some Connect) (cond n (Some Nodes) (cond r (Some Routes) (cond u (Some Users) (cond i (Some Info) (cond b (Some Bye) (cond h (Some Help) None)))))) ≡ maybe_verb Nodes → n ≡ true
is_nodes true n r u i b h e = cc
is_nodes false true r u i b h e = refl
is_nodes false false true u i b h e = cc
is_nodes false false false true i b h e = cc
is_nodes false false false false true b h e = cc
is_nodes false false false false false true h e = cc
is_nodes false false false false false false true e = cc
is_nodes false false false false false false false e = cc

either : (word whole letter : List ℕ) (a b : Bool) → bytes_eq word whole ≡ a → bytes_eq word letter ≡ b → (a || b) ≡ true → (word ≡ whole) ⊎ (word ≡ letter)
either word whole letter true b p q e = inl ((bytes_eq-Decides word whole).0 p)
either word whole letter false true p q e = inr ((bytes_eq-Decides word letter).0 q)
either word whole letter false false p q e = cc

named : (word : List ℕ) → verb_of word ≡ Some Nodes → (word ≡ codes "NODES") ⊎ (word ≡ codes "N")
named word e =
    let n = is_nodes (is_either word (codes "CONNECT") (codes "C")) (is_either word (codes "NODES") (codes "N")) _ _ _ _ _ e in
    either word (codes "NODES") (codes "N") _ _ refl refl n

names : (word : List ℕ) → (word ≡ codes "NODES") ⊎ (word ≡ codes "N") → verb_of word ≡ Some Nodes
names word (inl e) = rw e refl
names word (inr e) = rw e refl

record Asks (all : List (List ℕ)) (dest : Callsign) : Type 0 where
  pub first : List ℕ
  pub second : List ℕ
  pub words : all ≡ first ∷ second ∷ []
  pub named : verb_of first ≡ Some Nodes
  pub call : call_at second ≡ Ok dest

about_nodes : (r : Result Callsign CallRefusal) (dest : Callsign) → wanted_by (about ask.RoutesTo r) ≡ Some dest → r ≡ Ok dest
about_nodes (Ok d) dest e = cc
about_nodes (Err why) dest e = cc

never_connects : (r : Result Callsign CallRefusal) (dest : Callsign) → wanted_by (about ask.Connect r) ≡ Some dest → ⊥
never_connects (Ok d) dest e = cc
never_connects (Err why) dest e = cc

asks_two : (first second : List ℕ) (v : Option Verb) (dest : Callsign) → verb_of first ≡ v → wanted_by (command_from v (second ∷ [])) ≡ Some dest → Asks (first ∷ second ∷ []) dest
asks_two first second None dest v e = absurd (cc)
asks_two first second (Some Connect) dest v e = absurd (never_connects (call_at second) dest e)
asks_two first second (Some Nodes) dest v e = record { first = first; second = second; words = refl; named = v; call = about_nodes (call_at second) dest e }
asks_two first second (Some Routes) dest v e = absurd (cc)
asks_two first second (Some Users) dest v e = absurd (cc)
asks_two first second (Some Info) dest v e = absurd (cc)
asks_two first second (Some Bye) dest v e = absurd (cc)
asks_two first second (Some Help) dest v e = absurd (cc)

alone : (v : Option Verb) (dest : Callsign) → wanted_by (command_from v []) ≡ Some dest → ⊥
alone None dest e = cc
alone (Some Connect) dest e = cc
alone (Some Nodes) dest e = cc
alone (Some Routes) dest e = cc
alone (Some Users) dest e = cc
alone (Some Info) dest e = cc
alone (Some Bye) dest e = cc
alone (Some Help) dest e = cc

many : (v : Option Verb) (a b : List ℕ) (more : List (List ℕ)) (dest : Callsign) → wanted_by (command_from v (a ∷ b ∷ more)) ≡ Some dest → ⊥
many None a b more dest e = cc
many (Some v) a b more dest e = cc

asks : (words : List (List ℕ)) (dest : Callsign) → wanted_by (command_of words) ≡ Some dest → Asks words dest
asks [] dest e = absurd (cc)
asks (first ∷ []) dest e = absurd (alone (verb_of first) dest e)
asks (first ∷ second ∷ []) dest e = asks_two first second (verb_of first) dest refl e
asks (first ∷ a ∷ b ∷ more) dest e = absurd (many (verb_of first) a b more dest e)

asks_for : (line : List ℕ) (dest : Callsign) (long : Bool) → nat_lt 80 (length line) ≡ long → wanted_by (cond long (Err TooLong) (command_of (words_of (map capital line)))) ≡ Some dest → AsksForRoutes line dest
asks_for line dest true l e = absurd (cc)
asks_for line dest false l e =
    let a = asks (words_of (map capital line)) dest e in
    record { first = a.first; second = a.second; fits = grind (arith, nat_tests); words = a.words; named = named a.first a.named; call = a.call }

wanted_asks : (line : List ℕ) (dest : Callsign) → wanted line ≡ Some dest → AsksForRoutes line dest
unfolding command_at
wanted_asks line dest e = asks_for line dest (nat_lt 80 (length line)) refl e

asks_wanted : (line : List ℕ) (dest : Callsign) → AsksForRoutes line dest → wanted line ≡ Some dest
unfolding command_at
asks_wanted line dest a =
    let short : nat_lt 80 (length line) ≡ false = grind (arith, nat_tests, a.fits) in
    rw (short, a.words, names a.first a.named, a.call) refl

pub wanted_is_asked_for : WantedIsAskedFor
wanted_is_asked_for line dest = (wanted_asks line dest, asks_wanted line dest)

-- these are what is shown then
shown_wanted : (p : Prompt) (dest : Callsign) (r : Result Command LineRefusal) → replies.action_of p r ≡ Show (sight.RoutesTo dest) → wanted_by r ≡ Some dest
shown_wanted p dest (Err why) e = absurd (cc)
shown_wanted p dest (Ok ask.Nothing) e = absurd (cc)
shown_wanted p dest (Ok (ask.Connect x)) e = absurd (cc)
shown_wanted p dest (Ok ask.Nodes) e = absurd (cc)
shown_wanted p dest (Ok (ask.RoutesTo x)) e = cc
shown_wanted p dest (Ok ask.Routes) e = absurd (cc)
shown_wanted p dest (Ok ask.Users) e = absurd (cc)
shown_wanted p dest (Ok ask.Info) e = absurd (cc)
shown_wanted p dest (Ok ask.Bye) e = absurd (cc)
shown_wanted p dest (Ok ask.Help) e = absurd (cc)

wanted_shown : (p : Prompt) (dest : Callsign) (r : Result Command LineRefusal) → wanted_by r ≡ Some dest → replies.action_of p r ≡ Show (sight.RoutesTo dest)
wanted_shown p dest (Err why) e = absurd (cc)
wanted_shown p dest (Ok ask.Nothing) e = absurd (cc)
wanted_shown p dest (Ok (ask.Connect x)) e = absurd (cc)
wanted_shown p dest (Ok ask.Nodes) e = absurd (cc)
wanted_shown p dest (Ok (ask.RoutesTo x)) e = let same : x ≡ dest = cc in rw same refl
wanted_shown p dest (Ok ask.Routes) e = absurd (cc)
wanted_shown p dest (Ok ask.Users) e = absurd (cc)
wanted_shown p dest (Ok ask.Info) e = absurd (cc)
wanted_shown p dest (Ok ask.Bye) e = absurd (cc)
wanted_shown p dest (Ok ask.Help) e = absurd (cc)

pub routes_are_asked_for : RoutesAreAskedFor
routes_are_asked_for p line dest =
    (λ e. wanted_asks line dest (shown_wanted p dest (command_at line) e), λ a. wanted_shown p dest (command_at line) (asks_wanted line dest a))

-- ---- the case of letters

pub case_is_nothing : CaseIsNothing
unfolding command_at
case_is_nothing p line other same =
    let len : length line ≡ length other = sym (length-map line capital) ∙ (ap length same ∙ length-map other capital) in
    rw (len, same) refl

-- ---- how a text begins and ends

abbrev Ends : List ℕ → Type 0
Ends text = (line : List ℕ) × (text ≡ ended line)

ends_on : (front line : List ℕ) → Ends (front ++ ended line)
ends_on front line = (front ++ line, sym (append_assoc front line (13 ∷ [])))

ends_lines : {X : Type 0} (f : X → List ℕ) → (xs : List X) (front : List ℕ) → Ends front → Ends (front ++ flat_map (λ x. ended (f x)) xs)
ends_lines f [] front h = (h.0, append-nil front ∙ h.1)
ends_lines f (x ∷ xs) front h =
    let rest = ends_lines f xs (front ++ ended (f x)) (ends_on front (f x)) in
    (rest.0, sym (append_assoc front (ended (f x)) (flat_map (λ y. ended (f y)) xs)) ∙ rest.1)

ends_more : (more : ℕ) (none : Bool) (front : List ℕ) → Ends front → Ends (front ++ cond none [] (ended (codes "and " ++ decimal more ++ codes " more")))
ends_more more true front h = (h.0, append-nil front ∙ h.1)
ends_more more false front h = ends_on front (codes "and " ++ decimal more ++ codes " more")

is_reply : (p : Prompt) (text : List ℕ) → Ends text → IsReply p (prefix_of p ++ text)
is_reply p text h = (h.0, ap (λ t. prefix_of p ++ t) h.1)

nodes_end : (routes : List Route) (more : ℕ) → Ends (replies.nodes_text routes more)
nodes_end routes more =
    let lines = ends_lines (λ (r : Route). aliases.shown r.alias ++ codes ":" ++ calls.shown r.dest) routes (ended (codes "Nodes:")) (codes "Nodes:", refl) in
    let all = ends_more more (more == 0) (ended (codes "Nodes:") ++ flat_map replies.node_line routes) lines in
    (all.0, sym (append_assoc (ended (codes "Nodes:")) (flat_map replies.node_line routes) (replies.more_line more)) ∙ all.1)

replied_by : (p : Prompt) (r : Result Command LineRefusal) → IfSome (replies.said (replies.action_of p r)) (IsReply p)
replied_by p (Err TooLong) = (codes "Line too long", refl)
replied_by p (Err UnknownCommand) = (codes "Unknown command", refl)
replied_by p (Err WrongWords) = (codes "Wrong words", refl)
replied_by p (Err BadCall) = (codes "Bad call", refl)
replied_by p (Ok ask.Nothing) = tt
replied_by p (Ok (ask.Connect x)) = tt
replied_by p (Ok ask.Nodes) = tt
replied_by p (Ok (ask.RoutesTo x)) = tt
replied_by p (Ok ask.Routes) = tt
replied_by p (Ok ask.Users) = tt
replied_by p (Ok ask.Info) = (codes "NET/ROM node", refl)
replied_by p (Ok ask.Bye) = (codes "Bye", refl)
replied_by p (Ok ask.Help) = (codes "CONNECT NODES ROUTES USERS INFO BYE HELP", refl)

viewed_by : (p : Prompt) (view : View) → IsReply p (replies.view_text p view).items
viewed_by p (see.Nodes routes more) = is_reply p _ (nodes_end routes.items more)
viewed_by p (see.RoutesTo x routes) = is_reply p _ (ends_lines (λ (r : Route). decimal r.quality ++ codes " " ++ replies.count_text r.count ++ codes " " ++ calls.shown r.neighbour) routes.items _ (codes "Routes to " ++ calls.shown x ++ codes ":", refl))
viewed_by p (see.Routes neighbours) = is_reply p _ (ends_lines (λ (r : Route). calls.shown r.dest ++ codes " " ++ decimal r.quality) neighbours.items _ (codes "Routes:", refl))
viewed_by p (see.Users users) = is_reply p _ (ends_lines calls.shown users.items _ (codes "Users:", refl))

refused_by : (p : Prompt) (dest : Callsign) (why : Trouble) → IsReply p (replies.refused p dest why).items
refused_by p dest NoRoute = (codes "No route to " ++ calls.shown dest, refl)
refused_by p dest Own = (codes "That is this node", refl)
refused_by p dest Full = (codes "No circuits free", refl)
refused_by p dest Busy = (codes "Busy from " ++ calls.shown dest, refl)
refused_by p dest Failure = (codes "Failure with " ++ calls.shown dest, refl)

pub all_is_reply : AllIsReply
all_is_reply = record {
  line = λ p line. replied_by p (command_at line);
  show = viewed_by;
  trying = λ p dest. (codes "Trying " ++ calls.shown dest, refl);
  connected = λ p dest. (codes "Connected to " ++ calls.shown dest, refl);
  refused = refused_by;
  ended = λ p dest. (codes "Disconnected from " ++ calls.shown dest, refl);
}
