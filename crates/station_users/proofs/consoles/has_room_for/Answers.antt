use Rattle.std.proofs.Common.{◌≡◌, ◌<◌, ◌-◌, ◌∙◌, ℕ, ap, arith}
use Rattle.std.specs.Prelude.{◌^◌, min, nat_le}
use Rattle.std.proofs.lemmas.Bool.Decides.{leb_tells}
use Rattle.station_sessions.specs.Sessions.{typed_size}
use Rattle.station_users.proofs.consoles.has_room_for.Goals as goal

-- what is counted up to a number is as small as the whole, where that is compared with less
capped_le : (n most limit : ℕ) → limit < most → nat_le (min n most) limit ≡ nat_le n limit
capped_le n most limit h = grind (arith, leb_tells n limit, leb_tells (min n most) limit)

pub returns : goal.returns
returns c =
    ap (λ n. nat_le n (65536 - c.args.size)) c.typed_size.ensures
    ∙ capped_le (typed_size c.args.session.now.typed) (2 ^ 64 - 1) (65536 - c.args.size) (omega arith)
