-- Links that are opened, as the code holds them.
use Rattle.std.proofs.Common.{◌≡◌, ℕ, ◌≤◌, ◌<◌, Bool, true, false, length, is_some, nat_le, nat_lt, None, refl, ap, sym, ◌∙◌, subst, arith, if◌then◌else◌}
use Rattle.std.specs.Prelude.{Result, Ok, Err, is_ok}
use Rattle.std.specs.Map.{lookup}
use Rattle.std.proofs.lemmas.Bool.Decides.{nat_tests}
use Rattle.arrayvec.specs.ArrayVec.{ArrayVec}
use Rattle.ax_address.specs.Callsign.{Callsign, same_call}
use Rattle.ax_address.specs.declared.address.Address.{Address}
use Rattle.link_table.specs.declared.held_links.HeldLinks.{HeldLinks}
use Rattle.link_table.specs.declared.open_refusal.OpenRefusal.{OpenRefusal}
use Rattle.link_table.specs.declared.open_refusal.OpenRefusal.TheVariants.{Full, Standing, TooLong}
use Rattle.link_table.specs.Calls.{most_links, most_repeaters, open_answer, open_link, open_path, set_up_over}
use Rattle.link_table.specs.Standing.{CoreGoes, CoreStands}
use Rattle.link_table.specs.Table.{Table, link_with}
use Rattle.link_table.proofs.LinkOffers.{entry_looks, same_length}
use Rattle.link_table.proofs.Links.{found, none_found}

-- what stands against it, by what is kept
module _ (c : HeldLinks) (peer : Callsign) (path : ArrayVec Address) (t : Table) (s : CoreStands c t) where
  answers_by : (there long full : Bool) → is_some (link_with peer t.links) ≡ there → nat_lt most_repeaters (length path.items) ≡ long → nat_le most_links (length t.links) ≡ full →
      open_answer peer path t ≡ (if there then Err Standing else if long then Err TooLong else if full then Err Full else Ok tt)
  answers_by there long full e f g =
      ap (λ x. if x then Err Standing else if nat_lt most_repeaters (length path.items) then Err TooLong else if nat_le most_links (length t.links) then Err Full else Ok tt) e
      ∙ ap (λ x. if there then Err Standing else if x then Err TooLong else if nat_le most_links (length t.links) then Err Full else Ok tt) f
      ∙ ap (λ x. if there then Err Standing else if long then Err TooLong else if x then Err Full else Ok tt) g

  stands_there : is_some (lookup (same_call peer) c.links.entries) ≡ true → is_some (link_with peer t.links) ≡ true
  stands_there there =
      let x = entry_looks _ there in
      ap is_some (found c.own peer c.links.entries t.links x.0 s.links x.1).with

  none_stands : lookup (same_call peer) c.links.entries ≡ None → is_some (link_with peer t.links) ≡ false
  none_stands none = ap is_some (none_found c.own peer c.links.entries t.links s.links none)

  as_many : nat_le most_links (length c.links.entries) ≡ nat_le most_links (length t.links)
  as_many = ap (nat_le most_links) (same_length c.own c.links.entries t.links s.links)

  pub answers_standing : is_some (lookup (same_call peer) c.links.entries) ≡ true → Err Standing ≡ open_answer peer path t
  answers_standing there = sym (answers_by true (nat_lt most_repeaters (length path.items)) (nat_le most_links (length t.links)) (stands_there there) refl refl)

  pub answers_long : lookup (same_call peer) c.links.entries ≡ None → most_repeaters < length path.items → Err TooLong ≡ open_answer peer path t
  answers_long none long = sym (answers_by false true (nat_le most_links (length t.links)) (none_stands none) (grind (arith, nat_tests, long)) refl)

  pub answers_full : lookup (same_call peer) c.links.entries ≡ None → length path.items ≤ most_repeaters → most_links ≤ length c.links.entries → Err Full ≡ open_answer peer path t
  answers_full none short full =
      let test : nat_le most_links (length c.links.entries) ≡ true = grind (arith, nat_tests, full) in
      sym (answers_by false false true (none_stands none) (grind (arith, nat_tests, short)) (sym as_many ∙ test))

  pub answers_room : lookup (same_call peer) c.links.entries ≡ None → length path.items ≤ most_repeaters → length c.links.entries < most_links → Ok tt ≡ open_answer peer path t
  answers_room none short room =
      let test : nat_le most_links (length c.links.entries) ≡ false = grind (arith, nat_tests, room) in
      sym (answers_by false false false (none_stands none) (grind (arith, nat_tests, short)) (sym as_many ∙ test))

-- a link is opened
pub open_made : (c c2 : HeldLinks) (peer : Callsign) (path over : ArrayVec Address) (now : ℕ) → lookup (same_call peer) c.links.entries ≡ None → length path.items ≤ most_repeaters →
    length c.links.entries < most_links → over ≡ open_path peer path c.paths.entries → CoreGoes (set_up_over peer over now) c c2 → CoreGoes (open_link peer path now) c c2
open_made c c2 peer path over now none short room e goes t s =
    let is : Bool → Table = λ b. if b then set_up_over peer (open_path peer path t.paths) now t else t in
    subst (CoreStands c2) (ap (λ (x : Result (Unit {0}) OpenRefusal). is (is_ok x)) (answers_room c peer path t s none short room))
    (subst (λ (p : ArrayVec Address). CoreStands c2 (set_up_over peer p now t)) (e ∙ ap (open_path peer path) (sym s.paths)) (goes t s))
