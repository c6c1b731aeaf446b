-- Acts at ends: the end that is asked about is the one at which it is done, and an act at a link is none of these.
use Rattle.std.proofs.Common.{◌≡◌, ◌∙◌, sym, ap, inl, inr}
use Rattle.std.specs.Prelude.{ℕ, ◌⊎◌, Bool, true, false, List, Result}
use Rattle.std.specs.Borrow.{Bor}
use Rattle.arrayvec.specs.ArrayVec.{ArrayVec}
use Rattle.ax_address.specs.Callsign.{Callsign}
use Rattle.ax_address.specs.declared.address.Address.{Address}
use Rattle.node_core.specs.Acts as acts
use Rattle.node_core.specs.declared.acts.ActDone.{ActDone}
use Rattle.node_core.specs.declared.acts.ActRefusal.{ActRefusal}
use Rattle.node_core.specs.declared.acts.UserAct as code
use Rattle.node_core.specs.declared.acts.UserAct.TheVariants as codes
use Rattle.node_core.specs.declared.station.Station.{Station}
use Rattle.node_core.specs.Going.{Answers}
use Rattle.node_model.specs.States.{State}

abbrev pub AtEnd : code.UserAct → ℕ → Type 0
AtEnd act id = ((m : Bor (List ℕ)) × (act ≡ codes.Write id m)) ⊎ ((act ≡ codes.Take id) ⊎ (act ≡ codes.Close id))

abbrev pub AtLink : code.UserAct → Type 0
AtLink act =
    ((to : Callsign) × (act ≡ codes.TakeText to)) ⊎ (((to : Callsign) × (text : Bor (List ℕ)) × (act ≡ codes.SendText to text))
    ⊎ (((to : Callsign) × (path : ArrayVec Address) × (act ≡ codes.OpenLink to path)) ⊎ ((to : Callsign) × (act ≡ codes.CloseLink to))))

abbrev is_at_link : code.UserAct → Bool
is_at_link (codes.TakeText to) = true
is_at_link (codes.SendText to text) = true
is_at_link (codes.OpenLink to path) = true
is_at_link (codes.CloseLink to) = true
is_at_link _ = false

at_link : (act : code.UserAct) → AtLink act → is_at_link act ≡ true
at_link act (inl (to, e)) = ap is_at_link e
at_link act (inr (inl (to, text, e))) = ap is_at_link e
at_link act (inr (inr (inl (to, path, e)))) = ap is_at_link e
at_link act (inr (inr (inr (to, e)))) = ap is_at_link e

-- the number of its end
abbrev id_of : code.UserAct → ℕ
id_of (codes.Write id message) = id
id_of (codes.Take id) = id
id_of (codes.Close id) = id
id_of _ = 0

same_end : (act : code.UserAct) (id : ℕ) → AtEnd act id → id_of act ≡ id
same_end act id (inl (m, e)) = ap id_of e
same_end act id (inr (inl e)) = ap id_of e
same_end act id (inr (inr e)) = ap id_of e

module _ (s : Station) (r : Result ActDone ActRefusal) (now : ℕ) (n : State) (act : code.UserAct) (asked id : ℕ) (at : AtEnd act asked)
    (free : acts.is_kept asked n ≡ false) where
  free_of : id_of act ≡ id → acts.is_kept id n ≡ false
  free_of e = ap (λ k. acts.is_kept k n) (sym e ∙ same_end act asked at) ∙ free

  pub writes_free : (m : Bor (List ℕ)) → act ≡ codes.Write id m → Answers s r (acts.write now id m.now n) → Answers s r (acts.do_act now (acts.act_of act) n)
  writes_free m is post = rw (is, free_of (ap id_of is)) post

  pub takes_free : act ≡ codes.Take id → Answers s r (acts.take now id n) → Answers s r (acts.do_act now (acts.act_of act) n)
  takes_free is post = rw (is, free_of (ap id_of is)) post

  pub closes_free : act ≡ codes.Close id → Answers s r (acts.close now id n) → Answers s r (acts.do_act now (acts.act_of act) n)
  closes_free is post = rw (is, free_of (ap id_of is)) post

pub no_write : {P : Type 0} (act : code.UserAct) (id : ℕ) (m : Bor (List ℕ)) → AtLink act → act ≡ codes.Write id m → P
no_write act id m l is = let there = at_link act l in let not_there : is_at_link act ≡ false = ap is_at_link is in absurd (cc)

pub no_take : {P : Type 0} (act : code.UserAct) (id : ℕ) → AtLink act → act ≡ codes.Take id → P
no_take act id l is = let there = at_link act l in let not_there : is_at_link act ≡ false = ap is_at_link is in absurd (cc)

pub no_close : {P : Type 0} (act : code.UserAct) (id : ℕ) → AtLink act → act ≡ codes.Close id → P
no_close act id l is = let there = at_link act l in let not_there : is_at_link act ≡ false = ap is_at_link is in absurd (cc)
