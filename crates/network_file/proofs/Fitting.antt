-- Each node is declared once, with a call of its own, what stands for calls are calls, and the version of a file stands before its settings, each of which is one that files of that version may have.
use Rattle.std.proofs.Common.{◌≡◌, ◌≤◌, ℕ, suc, refl, sym, subst, List, [], ◌∷◌, ◌++◌, length, arith, Bool, true, false, cond}
use Rattle.std.specs.Prelude.{◌&&◌, ◌==◌, not, nat_eq, nat_lt, is_none, take, Result, Ok, Err}
use Rattle.std.specs.Cmp.Lexicographic.{pointwise}
use Rattle.std.specs.Str.Lines.{lines}
use Rattle.std.specs.List.{AllByRecursion}
use Rattle.std.proofs.lemmas.Bool.{not-true}
use Rattle.ax_address.specs.Callsign as calls
use Rattle.ax_address.specs.Callsign.{ReadsCallTexts, Callsign}
use Rattle.ax_address.specs.declared.call.CallRefusal.{CallRefusal}
use Rattle.ax_address.specs.Results.{◌>>=◌}
use Rattle.network_file.specs.declared.plan.instructions.NumberedInstruction.{NumberedInstruction}
use Rattle.network_file.specs.declared.lines.Line.{Line}
use Rattle.network_file.specs.declared.lines.Line.TheVariants as said
use Rattle.network_file.specs.declared.plan.channels.Channel.{Channel}
use Rattle.network_file.specs.declared.plan.declarations.Declaration.{Declaration}
use Rattle.network_file.specs.declared.plan.instructions.Instruction.{Instruction}
use Rattle.network_file.specs.declared.plan.instructions.Instruction.TheVariants as instructions
use Rattle.network_file.specs.declared.plan.vias.Via.{Via}
use Rattle.network_file.specs.declared.what.What.{What}
use Rattle.network_file.specs.declared.what.What.TheVariants as whats
use Rattle.network_file.specs.Keys.{Assignment, key_at, least_of, most_of, takes, clashes, set_to}
use Rattle.network_file.specs.Laws.{AreDifferent, ArePairNumbers, CallsAreCalls, CallsDeclaredOnce, DeclaredOnce, HasCalls, HaveOwnCalls, IsAllowed, IsCall, IsInRange, NamesCalls, NamesPair, NoMailAtPrompts, PairsArePairs, SettingsFit, SettingsInRange}
use Rattle.network_file.specs.Lines.{all_kinds, from_circuits, from_mails, line_at, line_of}
use Rattle.network_file.specs.Lines.Instructions as circuits
use Rattle.network_file.specs.Lines.Declaring.{are_members, are_repeaters, calls_at, channel_line, members_at, declaration_at, node_line, set_line, setting_at, version_at, version_line, via_at, via_line}
use Rattle.network_file.specs.Lines.Instructions.{are_entries, broadcast_at, entries_at, heard_line}
use Rattle.network_file.specs.Lines.Kinds.{Kind, as_line, in_time, line_by, with_text}
use Rattle.network_file.proofs.Declared.{more_calls, more_different}
use Rattle.network_file.proofs.Prompts.{AreApart, known_key, more_apart}
use Rattle.network_file.proofs.Ranges.{ranged}
use Rattle.network_file.specs.Networks.{Bad, after_line, after_lines, and_then, network_of, nothing, with_line, with_said}
use Rattle.network_file.specs.Places.{alias_at, call_at, has_call, has_node, known, needs, text_behind, new_call_at, new_node_at, new_peer_at, node_at, number_at, value_at}
use Rattle.network_file.specs.Plan.{Plan, is_untouched, may_declare, version_of}
use Rattle.text_lines.specs.Lines.{is_skipped, is_text, is_number, words_of}

-- what is known of a setting that is read after a plan: it fits, is of a declared node, is set once, and makes no node keep mail that
-- serves users at a prompt
record FitsSetting (plan : Plan) (s : Assignment) : Type 0 where
  allowed : IsAllowed (version_of plan) s
  declared : has_node plan.declared s.node ≡ true
  in_range : IsInRange s
  new : is_none (set_to plan.settings s.node s.key) ≡ true
  apart : clashes plan.settings s.node s.key s.value ≡ false

-- and of a line: a version comes first, and a node is declared once
abbrev Fits : Plan → Line → Type 0
Fits plan (said.Version v) = is_untouched plan ≡ true
Fits plan (said.Node d) = (has_node plan.declared d.node ≡ false) × (has_call plan.declared d.call ≡ false) × IsCall d.call
Fits plan (said.Set s) = FitsSetting plan s
Fits plan (said.Channel c) = Unit {0}
Fits plan (said.Via v) = AllByRecursion IsCall v.repeaters.items
Fits plan (said.Instruction i) = NamesCalls i × NamesPair i

-- ---- the parts of a reading

bound : {A B : Type 0} (P : B → Type 0) (r : Result A What) (f : A → Result B What) → ((x : A) → r ≡ Ok x → (y : B) → f x ≡ Ok y → P y) → (y : B) → (r >>= f) ≡ Ok y → P y
bound P (Ok x) f h y e = h x refl y e
bound P (Err w) f h y e = absurd (cc e)

last : {B : Type 0} (P : B → Type 0) (x : B) → P x → (y : B) → ◌≡◌ {A = Result B What} (Ok x) (Ok y) → P y
last P x p y e = let same : x ≡ y = cc e in subst P same p

done : (plan : Plan) (i : Instruction) (y : Line) → ◌≡◌ {A = Result Line What} (Ok (said.Instruction i)) (Ok y) → NamesCalls i → NamesPair i → Fits plan y
done plan i y e n p = last (Fits plan) (said.Instruction i) (n, p) y e

-- an instruction that names no call and no pair
plain : (plan : Plan) {A : Type 0} (parts : Result A What) (makes : A → Instruction) → ((x : A) → NamesCalls (makes x) × NamesPair (makes x)) → (y : Line) → as_line parts makes ≡ Ok y → Fits plan y
plain plan parts makes none = bound (Fits plan) parts _ (λ x _ y z. done plan (makes x) y z (none x).0 (none x).1)

declares : (plan : Plan) (d : Declaration) → (has_node plan.declared d.node ≡ false) × (has_call plan.declared d.call ≡ false) × IsCall d.call → (y : Line) → ◌≡◌ {A = Result Line What} (Ok (said.Node d)) (Ok y) → Fits plan y
declares plan d new = last (Fits plan) (said.Node d) new

joins : (plan : Plan) (c : Channel) (y : Line) → ◌≡◌ {A = Result Line What} (Ok (said.Channel c)) (Ok y) → Fits plan y
joins plan c = last (Fits plan) (said.Channel c) tt

leads : (plan : Plan) (v : Via) (y : Line) → ◌≡◌ {A = Result Line What} (Ok (said.Via v)) (Ok y) → AllByRecursion IsCall v.repeaters.items → Fits plan y
leads plan v y e a = last (Fits plan) (said.Via v) a y e

needed : (b : Bool) (w : What) (u : Unit {0}) → needs b w ≡ Ok u → b ≡ true
needed true w u e = refl
needed false w u e = absurd (cc e)

declared_at : (ds : List Declaration) (word : List ℕ) (n : ℕ) → node_at ds word ≡ Ok n → has_node ds n ≡ true
unfolding node_at
declared_at ds word = bound (λ n. has_node ds n ≡ true) (number_at 1 16 word) _ (λ n _. bound (λ n. has_node ds n ≡ true) (needs (has_node ds n) whats.Node) _ (λ u e. last (λ n. has_node ds n ≡ true) n (needed (has_node ds n) whats.Node u e)))

new_at : (ds : List Declaration) (word : List ℕ) (n : ℕ) → new_node_at ds word ≡ Ok n → has_node ds n ≡ false
unfolding new_node_at
new_at ds word = bound (λ n. has_node ds n ≡ false) (number_at 1 16 word) _ (λ n _. bound (λ n. has_node ds n ≡ false) (needs (not (has_node ds n)) whats.Twice) _ (λ u e.
    last (λ n. has_node ds n ≡ false) n (not-true (has_node ds n) (needed (not (has_node ds n)) whats.Twice u e))))

new_call : (ds : List Declaration) (word : List ℕ) (c : Callsign) → new_call_at ds word ≡ Ok c → has_call ds c ≡ false
unfolding new_call_at
new_call ds word = bound (λ c. has_call ds c ≡ false) (call_at word) _ (λ c _. bound (λ c. has_call ds c ≡ false) (needs (not (has_call ds c)) whats.Twice) _ (λ u e.
    last (λ c. has_call ds c ≡ false) c (not-true (has_call ds c) (needed (not (has_call ds c)) whats.Twice u e))))

-- a value is within its range
value_ranged : (least most : ℕ) (word : List ℕ) (n : ℕ) → value_at least most word ≡ Ok n → (least ≤ n) × (n ≤ most)
unfolding value_at
value_ranged least most word = bound (λ n. (least ≤ n) × (n ≤ most)) (needs (is_number word) whats.Number) _ (λ u _ n e. ranged whats.Value least most word n e)

-- ---- each kind of line

version_fits : (plan : Plan) → is_untouched plan ≡ true → (words : List (List ℕ)) (l : Line) → version_line words ≡ Ok l → Fits plan l
unfolding version_at
version_fits plan h (word ∷ []) l e = bound (Fits plan) (value_at 1 4 word) _ (λ v _. last (Fits plan) (said.Version v) h) l e
version_fits plan h other l e = absurd (cc e)

set_fits : (plan : Plan) (words : List (List ℕ)) (l : Line) → set_line plan words ≡ Ok l → Fits plan l
unfolding setting_at
set_fits plan (number ∷ key ∷ word ∷ []) l e =
    bound (Fits plan) (node_at plan.declared number) _ (λ n known. bound (Fits plan) (key_at (version_of plan) key) _ (λ k has. bound (Fits plan) (needs (is_none (set_to plan.settings n k)) whats.Twice) _ (λ u new. bound (Fits plan) (value_at (least_of k) (most_of k) word) _ (λ v range. bound (Fits plan) (needs (takes (version_of plan) k v) whats.Value) _ (λ w may. bound (Fits plan) (needs (not (clashes plan.settings n k v)) whats.Value) _ (λ x apart.
    last (Fits plan) (said.Set (record { node = n; key = k; value = v })) (record {
      allowed = (known_key (version_of plan) key k has, needed (takes (version_of plan) k v) whats.Value w may);
      declared = declared_at plan.declared number n known;
      in_range = value_ranged (least_of k) (most_of k) word v range;
      new = needed (is_none (set_to plan.settings n k)) whats.Twice u new;
      apart = not-true (clashes plan.settings n k v) (needed (not (clashes plan.settings n k v)) whats.Value x apart);
    }))))))) l e
set_fits plan other l e = absurd (cc e)

channel_fits : (plan : Plan) (words : List (List ℕ)) (l : Line) → channel_line plan words ≡ Ok l → Fits plan l
unfolding channel_line
channel_fits plan words l e = bound (Fits plan) (needs (are_members words) whats.Count) _ (λ u _. bound (Fits plan) (members_at plan.declared [] words) _ (λ ns _. joins plan _)) l e

module _ (reads : ReadsCallTexts) where
  call_by : (word : List ℕ) (r : Result Callsign CallRefusal) (c : Callsign) → calls.call_at word ≡ r → ◌≡◌ {A = Result Callsign What} (elim r [ Ok d ↦ Ok d | Err e ↦ Err whats.Call ]) (Ok c) → IsCall c
  call_by word (Ok d) c e q = let same : d ≡ c = cc q in subst IsCall same ((reads word d).0 e).0
  call_by word (Err why) c e q = absurd (cc q)

  is_call : (word : List ℕ) (c : Callsign) → call_at word ≡ Ok c → IsCall c
  is_call word c e = call_by word (calls.call_at word) c refl e

  are_calls : (words : List (List ℕ)) (cs : List Callsign) → calls_at words ≡ Ok cs → AllByRecursion IsCall cs
  are_calls [] = last (AllByRecursion IsCall) [] tt
  are_calls (word ∷ words) =
      bound (AllByRecursion IsCall) (call_at word) _ (λ c q. bound (AllByRecursion IsCall) (calls_at words) _ (λ cs r. last (AllByRecursion IsCall) (c ∷ cs) (is_call word c q, are_calls words cs r)))

  new_call_is : (ds : List Declaration) (word : List ℕ) (c : Callsign) → new_call_at ds word ≡ Ok c → IsCall c
  unfolding new_call_at
  new_call_is ds word = bound IsCall (call_at word) _ (λ c q. bound IsCall (needs (not (has_call ds c)) whats.Twice) _ (λ u _. last IsCall c (is_call word c q)))

  node_fits : (plan : Plan) (words : List (List ℕ)) (l : Line) → node_line plan words ≡ Ok l → Fits plan l
  unfolding declaration_at
  node_fits plan (number ∷ name ∷ nick ∷ []) l e =
      bound (Fits plan) (new_node_at plan.declared number) _ (λ n new. bound (Fits plan) (new_call_at plan.declared name) _ (λ c other. bound (Fits plan) (alias_at nick) _ (λ a _. declares plan (record { node = n; call = c; alias = a }) (new_at plan.declared number n new, new_call plan.declared name c other, new_call_is plan.declared name c other)))) l e
  node_fits plan other l e = absurd (cc e)

  via_fits : (plan : Plan) (words : List (List ℕ)) (l : Line) → via_line plan words ≡ Ok l → Fits plan l
  unfolding via_at
  via_fits plan (number ∷ name ∷ words) l e =
      bound (Fits plan) (needs (are_repeaters words) whats.Count) _ (λ u _. bound (Fits plan) (node_at plan.declared number) _ (λ n _. bound (Fits plan) (new_peer_at plan.vias n name) _ (λ p _. bound (Fits plan) (calls_at words) _ (λ rs q y z. leads plan _ y z (are_calls words rs q))))) l e
  via_fits plan other l e = absurd (cc e)

  heard_fits : (plan : Plan) (words : List (List ℕ)) (l : Line) → heard_line plan words ≡ Ok l → Fits plan l
  unfolding broadcast_at
  heard_fits plan (number ∷ name ∷ nick ∷ rest) l e =
      bound (Fits plan) (needs (are_entries rest) whats.Count) _ (λ u _. bound (Fits plan) (node_at plan.declared number) _ (λ n _. bound (Fits plan) (call_at name) _ (λ c q. bound (Fits plan) (alias_at nick) _ (λ a _. bound (Fits plan) (entries_at rest) _ (λ es _ y z. done plan _ y z (is_call name c q) tt))))) l e
  heard_fits plan other l e = absurd (cc e)

  lock_fits : (plan : Plan) (words : List (List ℕ)) (l : Line) → circuits.lock_line plan words ≡ Ok l → Fits plan l
  unfolding circuits.lock_at
  lock_fits plan (number ∷ dest ∷ nick ∷ neighbour ∷ quality ∷ []) l e =
      bound (Fits plan) (node_at plan.declared number) _ (λ n _. bound (Fits plan) (call_at dest) _ (λ d _. bound (Fits plan) (alias_at nick) _ (λ a _. bound (Fits plan) (call_at neighbour) _ (λ b is. bound (Fits plan) (number_at 0 255 quality) _ (λ q _ y z. done plan _ y z (is_call neighbour b is) tt))))) l e
  lock_fits plan other l e = absurd (cc e)

  tick_fits : (plan : Plan) (words : List (List ℕ)) (l : Line) → circuits.tick_line words ≡ Ok l → Fits plan l
  unfolding circuits.tick_at
  tick_fits plan (word ∷ []) l e = bound (Fits plan) (number_at 1 86400000 word) _ (λ n _ y z. done plan _ y z tt tt) l e
  tick_fits plan other l e = absurd (cc e)

  restarts : (i d : ℕ) → (1 ≤ i) × (i ≤ 255) → (1 ≤ d) × (d ≤ 255) → ArePairNumbers (record { index = i; ident = d })
  restarts i d a b = record { index_some = a.0; index_most = a.1; ident_some = b.0; ident_most = b.1 }

  restart_fits : (plan : Plan) (words : List (List ℕ)) (l : Line) → circuits.restart_line plan words ≡ Ok l → Fits plan l
  unfolding circuits.restart_at
  restart_fits plan (number ∷ index ∷ ident ∷ []) l e =
      bound (Fits plan) (node_at plan.declared number) _ (λ n _. bound (Fits plan) (number_at 1 255 index) _ (λ i first. bound (Fits plan) (number_at 1 255 ident) _ (λ d second y z. done plan _ y z tt (restarts i d (ranged whats.Number 1 255 index i first) (ranged whats.Number 1 255 ident d second))))) l e
  restart_fits plan other l e = absurd (cc e)

  called_at : (plan : Plan) (number name : List ℕ) (way : ℕ × Callsign) → circuits.node_and_call_at plan number name ≡ Ok way → IsCall way.1
  unfolding circuits.node_and_call_at
  called_at plan number name =
      bound (λ (w : ℕ × Callsign). IsCall w.1) (node_at plan.declared number) _ (λ n _. bound (λ (w : ℕ × Callsign). IsCall w.1) (call_at name) _ (λ c q. last (λ (w : ℕ × Callsign). IsCall w.1) (n, c) (is_call name c q)))

  called : (plan : Plan) (words : List (List ℕ)) (way : ℕ × Callsign) → circuits.node_and_call plan words ≡ Ok way → IsCall way.1
  called plan (number ∷ name ∷ []) way e = called_at plan number name way e
  called plan other way e = absurd (cc e)

  open_fits : (plan : Plan) (words : List (List ℕ)) (l : Line) → as_line (circuits.node_and_call plan words) (λ way. instructions.Open way.0 way.1) ≡ Ok l → Fits plan l
  open_fits plan words = bound (Fits plan) (circuits.node_and_call plan words) _ (λ way q y z. done plan _ y z (called plan words way q) tt)

  burst_fits : (plan : Plan) (words : List (List ℕ)) (l : Line) → circuits.burst_line plan words ≡ Ok l → Fits plan l
  unfolding circuits.burst_at
  burst_fits plan (number ∷ nth ∷ count ∷ []) l e = bound (Fits plan) (circuits.end_at plan number nth) _ (λ n _. bound (Fits plan) (number_at 1 10000 count) _ (λ c _ y z. done plan _ y z tt tt)) l e
  burst_fits plan other l e = absurd (cc e)

  abbrev AreCalls : ℕ × Callsign × Callsign → Type 0
  AreCalls p = IsCall p.1 × IsCall p.2

  posts : (plan : Plan) (number to dest : List ℕ) (p : ℕ × Callsign × Callsign) → circuits.node_and_calls_at plan number to dest ≡ Ok p → AreCalls p
  unfolding circuits.node_and_calls_at
  posts plan number to dest =
      bound AreCalls (node_at plan.declared number) _ (λ n _. bound AreCalls (call_at to) _ (λ t q. bound AreCalls (call_at dest) _ (λ d r. last AreCalls (n, t, d) (is_call to t q, is_call dest d r))))

  posted : (plan : Plan) (words : List (List ℕ)) (p : ℕ × Callsign × Callsign) → circuits.node_and_calls plan words ≡ Ok p → AreCalls p
  posted plan (number ∷ to ∷ dest ∷ []) p e = posts plan number to dest p e
  posted plan other p e = absurd (cc e)

  texted : (plan : Plan) (line : List ℕ) (words : List (List ℕ)) (p : (ℕ × Callsign × Callsign) × List ℕ) → with_text 3 circuits.node_and_calls plan line words ≡ Ok p → AreCalls p.0
  texted plan line words =
      bound (λ p. AreCalls p.0) (known whats.Count (text_behind 4 line)) _ (λ t _. bound (λ p. AreCalls p.0) (circuits.node_and_calls plan (take 3 words)) _ (λ x q. last (λ p. AreCalls p.0) (x, t) (posted plan (take 3 words) x q)))

  post_fits : (plan : Plan) (line : List ℕ) (words : List (List ℕ)) (l : Line) → as_line (with_text 3 circuits.node_and_calls plan line words) (λ p. instructions.Post p.0.0 p.0.1 p.0.2 p.1) ≡ Ok l → Fits plan l
  post_fits plan line words = bound (Fits plan) (with_text 3 circuits.node_and_calls plan line words) _ (λ p q y z. done plan _ y z (texted plan line words p q) tt)

  -- ---- all kinds

  timely : (plan : Plan) (b : Bool) (r : Result Line What) (l : Line) → (b ≡ true → r ≡ Ok l → Fits plan l) → in_time b r ≡ Ok l → Fits plan l
  timely plan true r l h e = h refl e
  timely plan false r l h e = absurd (cc e)

  either : (plan : Plan) (b : Bool) (r s : Result Line What) (l : Line) → (r ≡ Ok l → Fits plan l) → (s ≡ Ok l → Fits plan l) → cond b r s ≡ Ok l → Fits plan l
  either plan true r s l h k e = h e
  either plan false r s l h k e = k e

  abbrev KindFits : Kind → Type 0
  KindFits k = (plan : Plan) (line : List ℕ) (words : List (List ℕ)) (l : Line) → k.says plan line words ≡ Ok l → Fits plan l

  by_fits : (ks : List Kind) → AllByRecursion KindFits ks → (plan : Plan) (line first : List ℕ) (words : List (List ℕ)) (l : Line) → line_by ks plan line first words ≡ Ok l → Fits plan l
  by_fits [] all plan line first words l e = absurd (cc e)
  by_fits (k ∷ ks) all plan line first words l e =
      either plan (k.is_known plan && pointwise nat_eq first k.word) (k.says plan line words) (line_by ks plan line first words) l (all.0 plan line words l) (by_fits ks all.1 plan line first words l) e

  -- the exceptions are listed: a kind that names no call and no pair needs no lemma of its own
  node_fit : AllByRecursion KindFits circuits.node_kinds
  node_fit = search (heard_fits, lock_fits, tick_fits, restart_fits, plain)

  circuit_fit : AllByRecursion KindFits circuits.circuit_kinds
  circuit_fit = search (open_fits, burst_fits, plain)

  mail_fit : AllByRecursion KindFits circuits.mail_kinds
  mail_fit = search (post_fits, plain)

  frame_fit : AllByRecursion KindFits circuits.frame_kinds
  frame_fit = search plain

  joined : (xs ys : List Kind) → AllByRecursion KindFits xs → AllByRecursion KindFits ys → AllByRecursion KindFits (xs ++ ys)
  joined [] ys a b = b
  joined (x ∷ xs) ys a b = (a.0, joined xs ys a.1 b)

  all_fit : AllByRecursion KindFits all_kinds
  all_fit = (
    λ plan line words l. timely plan (is_untouched plan) (version_line words) l (λ h. version_fits plan h words l),
    (
      λ plan line words l. timely plan (may_declare plan) (node_line plan words) l (λ _. node_fits plan words l),
      (
        λ plan line words l. timely plan (may_declare plan) (channel_line plan words) l (λ _. channel_fits plan words l),
        (
          λ plan line words l. timely plan (may_declare plan) (set_line plan words) l (λ _. set_fits plan words l),
          (
            λ plan line words l. timely plan (may_declare plan) (via_line plan words) l (λ _. via_fits plan words l),
            joined circuits.node_kinds from_circuits node_fit (joined circuits.circuit_kinds from_mails circuit_fit (joined circuits.mail_kinds circuits.frame_kinds mail_fit frame_fit)),
          ),
        ),
      ),
    ),
  )

  of_fits : (plan : Plan) (line : List ℕ) (words : List (List ℕ)) (l : Line) → line_of plan line words ≡ Ok l → Fits plan l
  of_fits plan line [] l e = absurd (cc e)
  of_fits plan line (first ∷ words) l e = by_fits all_kinds all_fit plan line first words l e

  line_fits : (plan : Plan) (line : List ℕ) (l : Line) → line_at plan line ≡ Ok l → Fits plan l
  unfolding line_at
  line_fits plan line l e = bound (Fits plan) (needs (is_text line) whats.Char) _ (λ u _. of_fits plan line (words_of line)) l e

  -- ---- a plan, line by line

  record IsFit (plan : Plan) : Type 0 where
    settings : AllByRecursion (IsAllowed (version_of plan)) plan.settings
    apart : AreApart plan.settings
    ranges : AllByRecursion IsInRange plan.settings
    none : plan.declared ≡ [] → plan.settings ≡ []
    different : AreDifferent plan.declared
    own_calls : HaveOwnCalls plan.declared
    calls : HasCalls plan
    pairs : AllByRecursion (λ (l : NumberedInstruction). NamesPair l.instruction) plan.instructions

  all_append : {A : Type 0} (P : A → Type 0) (xs : List A) (y : A) → AllByRecursion P xs → P y → AllByRecursion P (xs ++ y ∷ [])
  all_append P [] y all p = (p, tt)
  all_append P (x ∷ xs) y all p = (all.0, all_append P xs y all.1 p)

  never_empty : {A : Type 0} (xs : List A) (y : A) → (xs ++ y ∷ []) ≡ [] → ⊥
  never_empty [] y e = absurd (cc e)
  never_empty (x ∷ xs) y e = absurd (cc e)

  both : (a b : Bool) → (a && b) ≡ true → (a ≡ true) × (b ≡ true)
  both true b e = (refl, e)
  both false b e = absurd (cc e)

  empty_of : {A : Type 0} (xs : List A) → (length xs == 0) ≡ true → xs ≡ []
  empty_of [] e = refl
  empty_of (x ∷ xs) e = let none : length (x ∷ xs) ≡ 0 = grind (arith, e) in absurd (omega (arith, none))

  untouched : (plan : Plan) → is_untouched plan ≡ true → plan.declared ≡ []
  untouched plan h =
      let more = (both (is_none plan.version) _ h).1 in empty_of plan.declared (both (length plan.declared == 0) (length plan.instructions == 0) more).0

  line_keeps : (n : ℕ) (l : Line) (plan : Plan) → Fits plan l → IsFit plan → IsFit (with_line n l plan)
  line_keeps n (said.Version v) plan f fit =
      let none = fit.none (untouched plan f) in
      record {
        settings = subst (AllByRecursion (IsAllowed v)) (sym none) tt;
        apart = fit.apart;
        ranges = fit.ranges;
        none = fit.none;
        different = fit.different;
        own_calls = fit.own_calls;
        calls = record { nodes = fit.calls.nodes; vias = fit.calls.vias; lines = fit.calls.lines };
        pairs = fit.pairs;
      }
  line_keeps n (said.Node d) plan f fit = record {
    settings = fit.settings;
    apart = fit.apart;
    ranges = fit.ranges;
    none = λ e. absurd (never_empty plan.declared d e);
    different = more_different plan.declared d f.0 fit.different;
    own_calls = more_calls plan.declared d f.1 fit.own_calls;
    calls = record { nodes = all_append (λ (x : Declaration). IsCall x.call) plan.declared d fit.calls.nodes f.2; vias = fit.calls.vias; lines = fit.calls.lines };
    pairs = fit.pairs;
  }
  line_keeps n (said.Channel c) plan f fit = record {
    settings = fit.settings;
    apart = fit.apart;
    ranges = fit.ranges;
    none = fit.none;
    different = fit.different;
    own_calls = fit.own_calls;
    calls = record { nodes = fit.calls.nodes; vias = fit.calls.vias; lines = fit.calls.lines };
    pairs = fit.pairs;
  }
  line_keeps n (said.Set s) plan f fit =
      record {
        settings = all_append _ plan.settings s fit.settings f.allowed;
        apart = more_apart plan.settings s f.new f.apart fit.apart;
        ranges = all_append IsInRange plan.settings s fit.ranges f.in_range;
        none = λ e. absurd (cc (subst (λ ds. has_node ds s.node ≡ true) e f.declared));
        different = fit.different;
        own_calls = fit.own_calls;
        calls = record { nodes = fit.calls.nodes; vias = fit.calls.vias; lines = fit.calls.lines };
        pairs = fit.pairs;
      }
  line_keeps n (said.Via v) plan f fit = record {
    settings = fit.settings;
    apart = fit.apart;
    ranges = fit.ranges;
    none = fit.none;
    different = fit.different;
    own_calls = fit.own_calls;
    calls = record {
      nodes = fit.calls.nodes;
      vias = all_append (λ (x : Via). AllByRecursion IsCall x.repeaters.items) plan.vias v fit.calls.vias f;
      lines = fit.calls.lines;
    };
    pairs = fit.pairs;
  }
  line_keeps n (said.Instruction i) plan f fit = record {
    settings = fit.settings;
    apart = fit.apart;
    ranges = fit.ranges;
    none = fit.none;
    different = fit.different;
    own_calls = fit.own_calls;
    calls = record {
      nodes = fit.calls.nodes;
      vias = fit.calls.vias;
      lines = all_append (λ (x : NumberedInstruction). NamesCalls x.instruction) plan.instructions _ fit.calls.lines f.0;
    };
    pairs = all_append (λ (x : NumberedInstruction). NamesPair x.instruction) plan.instructions _ fit.pairs f.1;
  }

  said_keeps : (n : ℕ) (plan : Plan) (r : Result Line What) → ((l : Line) → r ≡ Ok l → Fits plan l) → IsFit plan → (p : Plan) → with_said n plan r ≡ Ok p → IsFit p
  said_keeps n plan (Ok l) h fit p e = let same : with_line n l plan ≡ p = cc e in subst IsFit same (line_keeps n l plan (h l refl) fit)
  said_keeps n plan (Err w) h fit p e = absurd (cc e)

  skip_keeps : (b : Bool) (n : ℕ) (plan : Plan) (line : List ℕ) → IsFit plan → (p : Plan) → cond b (Ok plan) (with_said n plan (line_at plan line)) ≡ Ok p → IsFit p
  skip_keeps true n plan line fit p e = let same : plan ≡ p = cc e in subst IsFit same fit
  skip_keeps false n plan line fit p e = said_keeps n plan (line_at plan line) (line_fits plan line) fit p e

  few_keeps : (b : Bool) (bad : Bad) (r : Result Plan Bad) → ((p : Plan) → r ≡ Ok p → IsFit p) → (p : Plan) → cond b (Err bad) r ≡ Ok p → IsFit p
  few_keeps true bad r h p e = absurd (cc e)
  few_keeps false bad r h p e = h p e

  after_keeps : (n : ℕ) (plan : Plan) (line : List ℕ) → IsFit plan → (p : Plan) → after_line n plan line ≡ Ok p → IsFit p
  after_keeps n plan line fit = few_keeps (nat_lt 20000 n) _ _ (skip_keeps (is_skipped line) n plan line fit)

  then_keeps : (r : Result Plan Bad) (next : Plan → Result Plan Bad) → ((p : Plan) → r ≡ Ok p → IsFit p) → ((p : Plan) → IsFit p → (q : Plan) → next p ≡ Ok q → IsFit q) → (q : Plan) → and_then r next ≡ Ok q → IsFit q
  then_keeps (Ok p) next h k q e = k p (h p refl) q e
  then_keeps (Err bad) next h k q e = absurd (cc e)

  lines_keep : (n : ℕ) (ls : List (List ℕ)) (plan : Plan) → IsFit plan → (p : Plan) → after_lines n plan ls ≡ Ok p → IsFit p
  lines_keep n [] plan fit p e = let same : plan ≡ p = cc e in subst IsFit same fit
  lines_keep n (line ∷ more) plan fit p e =
      then_keeps (after_line (suc n) plan line) (λ next. after_lines (suc n) next more) (after_keeps (suc n) plan line fit) (λ next f. lines_keep (suc n) more next f) p e

  plan_fits : (bytes : List ℕ) (plan : Plan) → network_of bytes ≡ Ok plan → IsFit plan
  unfolding network_of
  plan_fits bytes = lines_keep 0 (lines bytes) nothing (record { settings = tt; apart = λ node. refl; ranges = tt; none = λ _. refl; different = tt; own_calls = tt; calls = record { nodes = tt; vias = tt; lines = tt }; pairs = tt })

  pub settings_fit : SettingsFit
  settings_fit bytes plan e = (plan_fits bytes plan e).settings

  pub no_mail_at_prompts : NoMailAtPrompts
  no_mail_at_prompts bytes plan node e = (plan_fits bytes plan e).apart node

  pub declared_once : DeclaredOnce
  declared_once bytes plan e = (plan_fits bytes plan e).different

  pub calls_differ : CallsDeclaredOnce
  calls_differ bytes plan e = (plan_fits bytes plan e).own_calls

  pub calls_are_calls : CallsAreCalls
  calls_are_calls bytes plan e = (plan_fits bytes plan e).calls

  pub settings_in_range : SettingsInRange
  settings_in_range bytes plan e = (plan_fits bytes plan e).ranges

  pub pairs_are_pairs : PairsArePairs
  pairs_are_pairs bytes plan e = (plan_fits bytes plan e).pairs
