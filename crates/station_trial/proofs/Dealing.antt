-- Each station is given what it is dealt.
use Rattle.std.proofs.Common.{◌≡◌, ◌∙◌, ◌+◌, ℕ, List, [], ◌∷◌, Option, ap, arith, length, subst}
use Rattle.radio_base.specs.declared.moment.Moment.{Moment}
use Rattle.station_file.specs.Station.{Station}
use Rattle.station_trial.specs.declared.outlet.Outlet.{Outlet}
use Rattle.station_trial.specs.declared.tried.Tried.{Tried}
use Rattle.station_trial.specs.Gifts.{Dealt, Gift, gift_at}
use Rattle.station_trial.specs.Outlets.{OutletState}
use Rattle.station_trial.specs.Standing.{AllStand, Kept, OutletStands, TriedStands, TrialStands}
use Rattle.station_trial.specs.Stations.{TriedState, all_gave, all_put, gave, put_out}
use Rattle.station_trial.specs.Trials.{TrialState, deal}

abbrev pub at_ms : ℕ → Moment
at_ms ms = record { 0 = ms }

pub dealt : (what : Dealt) (old new : Kept) (s : TrialState)
    → ((ts : List TriedState) (o : OutletState) → AllStand old.tried ts → OutletStands old.outlet o
    → AllStand new.tried (all_gave what (at_ms old.time) 0 ts) × OutletStands new.outlet (all_put what (at_ms old.time) 0 ts o))
    → new.time ≡ old.time → new.at ≡ old.at → TrialStands old s → TrialStands new (deal what s)
dealt what old new s goes time at stands =
    let both = goes s.tried s.outlet stands.tried stands.outlet in
    record {
      tried = subst (λ n. AllStand new.tried (all_gave what (at_ms n) 0 s.tried)) stands.time both.0;
      outlet = subst (λ n. OutletStands new.outlet (all_put what (at_ms n) 0 s.tried s.outlet)) stands.time both.1;
      time = cc (time, stands.time);
      at = cc (at, stands.at);
    }

-- ---- one station

-- what is dealt to it is by its file
pub gives : (what : Dealt) (at : ℕ) (now : Moment) (gift : Option Gift) (file : Station) (k : Tried) (q : Outlet) (t : TriedState) (o : OutletState)
    → gift ≡ gift_at what at file → file ≡ t.file → TriedStands k (gave gift now t) → OutletStands q (put_out gift now at t o)
    → TriedStands k (gave (gift_at what at t.file) now t) × OutletStands q (put_out (gift_at what at t.file) now at t o)
gives what at now gift file k q t o is same tried outlet =
    let by : gift ≡ gift_at what at t.file = is ∙ ap (λ f. gift_at what at f) same in
    (subst (λ g. TriedStands k (gave g now t)) by tried, subst (λ g. OutletStands q (put_out g now at t o)) by outlet)

-- ---- all of them, from a place on

pub deals_none : (what : Dealt) (now : Moment) (at : ℕ) (q : Outlet) (ks : List Tried) (ts : List TriedState) (o : OutletState) → length ks ≡ 0
    → AllStand ks ts → OutletStands q o → AllStand ks (all_gave what now at ts) × OutletStands q (all_put what now at ts o)
deals_none what now at q [] [] o none all outlet = (tt, outlet)
deals_none what now at q [] (t ∷ ts) o none all outlet = absurd all
deals_none what now at q (k ∷ ks) ts o none all outlet = absurd (omega (arith, none))

-- the first of them, and the others
pub deals_more : (what : Dealt) (now : Moment) (at : ℕ) (k k' : Tried) (ks ks' : List Tried) (q r z : Outlet)
    → ((t : TriedState) (o : OutletState) → TriedStands k t → OutletStands q o
    → TriedStands k' (gave (gift_at what at t.file) now t) × OutletStands r (put_out (gift_at what at t.file) now at t o))
    → ((ts : List TriedState) (o : OutletState) → AllStand ks ts → OutletStands r o
    → AllStand ks' (all_gave what now (at + 1) ts) × OutletStands z (all_put what now (at + 1) ts o))
    → (ts : List TriedState) (o : OutletState) → AllStand (k ∷ ks) ts → OutletStands q o
    → AllStand (k' ∷ ks') (all_gave what now at ts) × OutletStands z (all_put what now at ts o)
deals_more what now at k k' ks ks' q r z one more [] o all outlet = absurd all
deals_more what now at k k' ks ks' q r z one more (t ∷ ts) o all outlet =
    let first = one t o all.0 outlet in
    let rest = more ts (put_out (gift_at what at t.file) now at t o) all.1 first.1 in
    ((first.0, rest.0), rest.1)
