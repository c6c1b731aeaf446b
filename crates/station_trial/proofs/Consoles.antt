-- The console at which is typed, by what stands there.
use Rattle.std.proofs.Common.{◌≡◌, ◌∙◌, ℕ, Bool, true, false, ap, sym, subst, refl}
use Rattle.std.specs.Prelude.{Option, Some, None, is_some, slice_get, if◌then◌else◌}
use Rattle.std.specs.Option.{option_map}
use Rattle.ax_address.specs.Callsign.{Callsign}
use Rattle.station_users.specs.Consoles.{is_open}
use Rattle.station.specs.States.{members_of}
use Rattle.station_members.specs.Looks.{place_of}
use Rattle.station_trial.specs.declared.trial.Came.TheVariants.{Done}
use Rattle.station_trial.specs.Directing.{has_member, is_members, open_as, open_by, set_call}
use Rattle.station_trial.specs.Gifts.{Open}
use Rattle.station_trial.specs.declared.tried.Tried.{Tried}
use Rattle.station_trial.specs.Standing.{Kept, TrialStands}
use Rattle.station_trial.specs.Stations.{TriedState}
use Rattle.station_trial.specs.Trials as trials
use Rattle.station_trial.specs.Trials.{TrialState, give, need_console, need_console_of}
use Rattle.station_trial.proofs.Placing.{Placed}

pub open_already : (s : TrialState) (t : TriedState) → slice_get s.tried s.at ≡ Some t → is_open 0 t.station.users ≡ true → need_console s ≡ s
open_already s t there lit = ap (λ o. need_console_of o s) there ∙ ap (λ b. if b then s else trials.open_as t.call s) lit

pub opens : (s : TrialState) (t : TriedState) → slice_get s.tried s.at ≡ Some t → is_open 0 t.station.users ≡ false → need_console s ≡ trials.open_as t.call s
opens s t there shut = ap (λ o. need_console_of o s) there ∙ ap (λ b. if b then s else trials.open_as t.call s) shut

pub no_console : (s : TrialState) → slice_get s.tried s.at ≡ None → need_console s ≡ s
no_console s none = ap (λ o. need_console_of o s) none

-- ---- whether a member has a call

pub member_there : (call : Callsign) (s : TrialState) (one : Tried) (p : Placed s.tried s.at one) (found : Option ℕ) → found ≡ place_of call (members_of p.one.station)
    → Some (is_some found) ≡ is_members call s
member_there call s one p found is = ap (λ f. Some (is_some f)) is ∙ sym (ap (λ t. option_map (has_member call) t) p.there)

pub no_member : (call : Callsign) (s : TrialState) → slice_get s.tried s.at ≡ None → None ≡ is_members call s
no_member call s none = sym (ap (λ t. option_map (has_member call) t) none)

-- it is opened anew under a call that no member has
pub reopens : (k : Kept) (call : Callsign) (s : TrialState) → Some false ≡ is_members call s → TrialStands k (give s.at (Open call) (set_call call s))
    → (Done ≡ (open_by (Some call) s).0) × TrialStands k (open_by (Some call) s).1
reopens k call s is stands = subst (λ o. (Done ≡ (open_as call o s).0) × TrialStands k (open_as call o s).1) is (refl, stands)

-- ---- the station at whose console is typed stays the one

opened_at : (shut : Bool) (call : Option Callsign) (s : TrialState) → (if shut then s else trials.open_as call s).at ≡ s.at
opened_at true call s = refl
opened_at false None s = refl
opened_at false (Some call) s = refl

needed_at : (one : Option TriedState) (s : TrialState) → (need_console_of one s).at ≡ s.at
needed_at None s = refl
needed_at (Some t) s = opened_at (is_open 0 t.station.users) t.call s

pub stays_there : (s : TrialState) → (need_console s).at ≡ s.at
stays_there s = needed_at (slice_get s.tried s.at) s

-- ---- it opens where it isn't

pub console_opens : (k : Kept) (s : TrialState) (one : Tried) (call : Option Callsign) (p : Placed s.tried s.at one) → call ≡ one.call → false ≡ is_open 0 p.one.station.users
    → TrialStands k (trials.open_as call s) → TrialStands k (need_console s)
console_opens k s one call p same shut stands =
    subst (λ x. TrialStands k x) (sym (opens s p.one p.there (sym shut)))
    (subst (λ o. TrialStands k (trials.open_as o s)) (same ∙ p.stands.call) stands)

pub console_stands : (k : Kept) (s : TrialState) (one : Tried) (p : Placed s.tried s.at one) → true ≡ is_open 0 p.one.station.users → TrialStands k s → TrialStands k (need_console s)
console_stands k s one p lit stands = subst (λ x. TrialStands k x) (sym (open_already s p.one p.there (sym lit))) stands

pub no_console_stands : (k : Kept) (s : TrialState) → slice_get s.tried s.at ≡ None → TrialStands k s → TrialStands k (need_console s)
no_console_stands k s none stands = subst (λ x. TrialStands k x) (sym (no_console s none)) stands
