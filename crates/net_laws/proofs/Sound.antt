-- Each network of a file is sound: what its lines set is within the ranges of the keys, and what stands for calls and pairs are some.
use Rattle.std.proofs.Common.{◌≡◌, ◌≤◌, ◌^◌, ℕ, refl, sym, subst, arith, List, [], ◌∷◌, map, Bool, true, false, cond}
use Rattle.std.specs.Prelude.{◌==◌, find, unwrap_or, Some}
use Rattle.std.specs.Option.{option_map}
use Rattle.std.specs.List.{AllByRecursion}
use Rattle.circuit_l4.specs.Opening as ends
use Rattle.circuit_table.specs.Runs.{AreStarts, IsStart}
use Rattle.circuit_table.specs.Sets.{SetState}
use Rattle.network_file.specs.declared.plan.instructions.NumberedInstruction.{NumberedInstruction}
use Rattle.network_file.specs.declared.plan.declarations.Declaration.{Declaration}
use Rattle.network_file.specs.declared.plan.instructions.Instruction.{Instruction}
use Rattle.network_file.specs.declared.plan.instructions.Instruction.TheVariants as instructions
use Rattle.network_file.specs.declared.plan.keys.Key.{Key}
use Rattle.network_file.specs.declared.plan.keys.Key.TheVariants.{Busy, Inactive, Timeout, Window}
use Rattle.network_file.specs.Keys.{Assignment, default_of, least_of, most_of, is_of, same_key, value_of}
use Rattle.network_file.specs.Laws.{CallsAreCalls, IsCall, IsInRange, NamesCalls, NamesPair, PairsArePairs, SettingsInRange}
use Rattle.network_file.specs.Plan.{Plan}
use Rattle.net_model.specs.SoundPlans.{IsInstruction, IsLine, set_of}
use Rattle.net_laws.specs.Promises.{NetworksAreSound}
use Rattle.net_model.specs.Starting.{by_number, new_placed}
use Rattle.net_model.proofs.Containing.{ends_config}
use Rattle.net_laws.proofs.Moving.{first_set, set_is}
use Rattle.net_laws.proofs.SentBefore.{by_number_all}
use Rattle.node_core.proofs.Tracing.{and_right}

-- ---- a key's value

-- it is that of a setting of the key, or its default
module _ (P : ℕ → Type 0) (k : Key) (node : ℕ) (each : (s : Assignment) → same_key s.key k ≡ true → IsInRange s → P s.value) (default : P (default_of k)) where
  value_case : (b : Bool) (s : Assignment) (ss : List Assignment) → is_of node k s ≡ b → IsInRange s
      → P (unwrap_or (option_map (λ (x : Assignment). x.value) (find (is_of node k) ss)) (default_of k))
      → P (unwrap_or (option_map (λ (x : Assignment). x.value) (cond b (Some s) (find (is_of node k) ss))) (default_of k))
  value_case true s ss e r rest = each s (and_right (s.node == node) (same_key s.key k) e) r
  value_case false s ss e r rest = rest

  value_is : (ss : List Assignment) → AllByRecursion IsInRange ss → P (value_of ss node k)
  value_is [] a = default
  value_is (s ∷ ss) a = value_case (is_of node k s) s ss refl a.0 (value_is ss a.1)

abbrev IsWindow : ℕ → Type 0
IsWindow v = (1 ≤ v) × (v ≤ 127)

abbrev IsTime : ℕ → Type 0
IsTime v = v ≤ 86400000

of_window : (k : Key) (v : ℕ) → same_key k Window ≡ true → least_of k ≤ v → v ≤ most_of k → IsWindow v
of_window Window v s low high = (low, high)
of_window key v s low high = absurd (cc s)

of_timeout : (k : Key) (v : ℕ) → same_key k Timeout ≡ true → v ≤ most_of k → IsTime v
of_timeout Timeout v s high = high
of_timeout key v s high = absurd (cc s)

of_busy : (k : Key) (v : ℕ) → same_key k Busy ≡ true → v ≤ most_of k → IsTime v
of_busy Busy v s high = high
of_busy key v s high = absurd (cc s)

of_inactive : (k : Key) (v : ℕ) → same_key k Inactive ≡ true → v ≤ most_of k → IsTime v
of_inactive Inactive v s high = high
of_inactive key v s high = absurd (cc s)

-- ---- the circuits of a node as they start

short : (v : ℕ) → IsTime v → v ≤ 2 ^ 62
short v h = omega (arith, h)

config_good : (plan : Plan) (d : Declaration) → AllByRecursion IsInRange plan.settings → ends.IsConfig (ends_config plan d)
config_good plan d a =
    let window : IsWindow (value_of plan.settings d.node Window) = value_is IsWindow Window d.node (λ s same r. of_window s.key s.value same r.0 r.1) (omega arith, omega arith) plan.settings a in
    let timeout : IsTime (value_of plan.settings d.node Timeout) = value_is IsTime Timeout d.node (λ s same r. of_timeout s.key s.value same r.1) (omega arith) plan.settings a in
    let busy : IsTime (value_of plan.settings d.node Busy) = value_is IsTime Busy d.node (λ s same r. of_busy s.key s.value same r.1) (omega arith) plan.settings a in
    let inactive : IsTime (value_of plan.settings d.node Inactive) = value_is IsTime Inactive d.node (λ s same r. of_inactive s.key s.value same r.1) (omega arith) plan.settings a in
    record {
      some = window.0;
      window = window.1;
      timeout = short (value_of plan.settings d.node Timeout) timeout;
      busy = short (value_of plan.settings d.node Busy) busy;
      inactive = short (value_of plan.settings d.node Inactive) inactive;
    }

one_starts : (plan : Plan) (d : Declaration) → AllByRecursion IsInRange plan.settings → IsCall d.call → IsStart (set_of (new_placed plan d))
one_starts plan d a call =
    let start : IsStart (first_set plan d (record { index = 1; ident = 1 }) 1) =
    record {
      own = call;
      user = call;
      config = config_good plan d a;
      pair = record { index_some = omega arith; index_most = omega arith; ident_some = omega arith; ident_most = omega arith };
      first = omega arith;
      none = refl;
    } in
    subst (λ (s : SetState). IsStart s) (sym (set_is plan d (record { index = 1; ident = 1 }) 1)) start

all_start : (plan : Plan) (ds : List Declaration) → AllByRecursion IsInRange plan.settings → AllByRecursion (λ (d : Declaration). IsCall d.call) ds → AreStarts (map set_of (map (new_placed plan) ds))
all_start plan [] a c = tt
all_start plan (d ∷ ds) a c = (one_starts plan d a c.0, all_start plan ds a c.1)

-- ---- the lines

is_line : (i : Instruction) → NamesCalls i → NamesPair i → IsInstruction i
is_line (instructions.Restart node pair) c p = record { index_some = p.index_some; index_most = p.index_most; ident_some = p.ident_some; ident_most = p.ident_most }
is_line (instructions.Open node dest) c p = c
is_line other c p = tt

are_lines : (ls : List NumberedInstruction) → AllByRecursion (λ (l : NumberedInstruction). NamesCalls l.instruction) ls → AllByRecursion (λ (l : NumberedInstruction). NamesPair l.instruction) ls
    → AllByRecursion IsLine ls
are_lines [] c p = tt
are_lines (l ∷ ls) c p = (is_line l.instruction c.0 p.0, are_lines ls c.1 p.1)

pub networks_are_sound : CallsAreCalls → PairsArePairs → SettingsInRange → NetworksAreSound
networks_are_sound calls pairs ranges bytes plan e = record {
  starts = all_start plan (by_number plan.declared 1 16) (ranges bytes plan e) (by_number_all (λ (d : Declaration). IsCall d.call) plan.declared 16 1 (calls bytes plan e).nodes);
  instructions = are_lines plan.instructions (calls bytes plan e).lines (pairs bytes plan e);
}
