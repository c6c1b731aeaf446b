-- When an act is refused.
use Rattle.std.proofs.Common.{◌≡◌, ◌<◌, ◌≤◌, ℕ, refl, arith, [], ◌∷◌, true, false}
use Rattle.std.specs.Prelude.{Bool, IsTrue, IsErrOf, nat_lt, Ok, Err}
use Rattle.std.proofs.lemmas.Bool.Decides.{nat_tests}
use Rattle.ax_address.specs.Callsign.{Callsign, same_call}
use Rattle.circuit_table.specs.declared.refusal.ConnectRefusal.{ConnectRefusal}
use Rattle.circuit_table.specs.declared.refusal.ConnectRefusal.TheVariants as connecting
use Rattle.route_table.specs.Held.{CanLock, TableRoutes, LockFault, StandsFor}
use Rattle.route_table.specs.Log.{Item}
use Rattle.route_table.specs.declared.refusal.LockRefusal.{LockRefusal}
use Rattle.route_table.specs.declared.refusal.LockRefusal.TheVariants as locking
use Rattle.node_core.specs.declared.acts.ActDone.TheVariants.{Done}
use Rattle.node_core.specs.declared.station.Station.{Station}
use Rattle.node_core.specs.Acts.{lock, connect_refusal, lock_refusal}
use Rattle.node_core.specs.Receiving.{has_room}
use Rattle.node_core.specs.Going.{Answers}
use Rattle.node_core.specs.Standing.{Holds, IsAnswer}
use Rattle.node_model.specs.States.{State, with_items}
use Rattle.node_core.proofs.Holding.{no_room}

-- ---- locks

pub lock_done : (s : Station) (t : TableRoutes) (n : State) (dest : Callsign) (item : Item) (quality : ℕ) → t.rules ≡ n.settings.rules → t.own ≡ n.settings.call
    → CanLock t dest quality → has_room (item ∷ []) n ≡ true → Holds s (with_items (item ∷ []) n) → Answers s (Ok Done) (lock dest item quality n)
lock_done s t n dest item quality rules own can room h =
    let other : same_call dest n.settings.call ≡ false = rw own at can.other in
    let enough : n.settings.rules.minq ≤ quality = rw rules at can.enough in
    let low : nat_lt quality n.settings.rules.minq ≡ false = grind (arith, nat_tests) in
    rw (other, low, room) (record { answer = refl; stands = h })

pub lock_refused : (s : Station) (t : TableRoutes) (n : State) (dest : Callsign) (item : Item) (quality : ℕ) (why : LockRefusal) → StandsFor t n.log → t.rules ≡ n.settings.rules
    → t.own ≡ n.settings.call → LockFault t dest quality (item ∷ []) why → Holds s n → IsAnswer (Err (lock_refusal why)) → Answers s (Err (lock_refusal why)) (lock dest item quality n)
lock_refused s t n dest item quality locking.Own stands rules own fault h a =
    let other : same_call dest n.settings.call ≡ true = rw own at fault in
    rw other (record { answer = refl; stands = h })
lock_refused s t n dest item quality locking.TooLow stands rules own fault h a =
    let other : same_call dest n.settings.call ≡ false = rw own at fault.other in
    let under : quality < n.settings.rules.minq = rw rules at fault.low in
    let low : nat_lt quality n.settings.rules.minq ≡ true = grind (arith, nat_tests) in
    rw (other, low) (record { answer = refl; stands = h })
lock_refused s t n dest item quality (locking.TableFull live would_be) stands rules own fault h a =
    let other : same_call dest n.settings.call ≡ false = rw own at fault.0.other in
    let enough : n.settings.rules.minq ≤ quality = rw rules at fault.0.enough in
    let low : nat_lt quality n.settings.rules.minq ≡ false = grind (arith, nat_tests) in
    let full = no_room t n (item ∷ []) live would_be stands rules fault.1 in
    rw (other, low, full.room, ← full.live_is, ← full.would_be_is) (record { answer = refl; stands = h })
lock_refused s t n dest item quality locking.NoMemory stands rules own fault h a = absurd a

-- ---- circuits that are asked for

pub not_spent : (b : Bool) → (IsTrue b → false ≡ true) → b ≡ false
not_spent true h = absurd (cc (h refl))
not_spent false h = refl

pub not_spent_by : (why : ConnectRefusal) (b : Bool) → IsAnswer (Err (connect_refusal why)) → (IsTrue b → IsErrOf {T = ℕ} (Err why) connecting.NoMemory) → b ≡ false
not_spent_by why false a h = refl
not_spent_by connecting.NoMemory true a h = absurd a
not_spent_by connecting.Own true a h = absurd (cc (h refl))
not_spent_by connecting.NoRoute true a h = absurd (cc (h refl))
not_spent_by connecting.Full true a h = absurd (cc (h refl))
