use Rattle.std.proofs.Common.{◌≡◌, ◌<◌, ◌+◌, ◌++◌, ◌∙◌, ℕ, List, ap, append_assoc, append-nil, drop, get_or, length, sym}
use Rattle.std.specs.Prelude.{String, string_bytes}
use Rattle.std.specs.declared.alloc.Global.{Global}
use Rattle.std.proofs.lemmas.List.{at_drop_all, at_drop_more}
use Rattle.station_lists.specs.Lists.{heard_text}
use Rattle.station_members.specs.Looks.{heard_at}
use Rattle.station_members.specs.States.{State}
use Rattle.station_ports.specs.declared.heard_list.Heard.{Heard}
use Rattle.station_looks.specs.Replies.{heard_from}
use Rattle.station_looks.proofs.heard.see_heard_on_all.Goals as goal

-- one port more, and then the others
heard_next : (s : State) (now at : ℕ) (names : List (String Global)) (name : String Global) (text : List ℕ) (heard : List Heard) (old new whole : List ℕ)
    → at < length names → name ≡ get_or names at name → text ≡ string_bytes name → heard ≡ heard_at at s → new ≡ old ++ heard_text text now heard
    → old ++ heard_from s now at (drop at names) ≡ whole → new ++ heard_from s now (at + 1) (drop (at + 1) names) ≡ whole
heard_next s now at names name text heard old new whole h is told seen more was =
    let rest = heard_from s now (at + 1) (drop (at + 1) names) in
    ap (λ t. t ++ rest) (more ∙ (ap (λ t. old ++ heard_text t now heard) told ∙ ap (λ hs. old ++ heard_text (string_bytes name) now hs) seen))
    ∙ (append_assoc old (heard_text (string_bytes name) now (heard_at at s)) rest
    ∙ (ap (λ (n : String Global). old ++ (heard_text (string_bytes n) now (heard_at at s) ++ rest)) is
    ∙ (ap (λ t. old ++ t) (sym (at_drop_more (heard_from s now at) names at name h)) ∙ was)))

pub loop-at-preserved : goal.loop-at-preserved
loop-at-preserved c = λ s stand.
    heard_next s c.args.now.0 c.loop-at.at c.args.names.now c.index-names-at.result c.as_str.result.now c.heard.result.now c.loop-at.text c.add_heard.new.reply _
    c.loop-at-test.true c.index-names-at.is c.as_str.ensures.value (c.heard.ensures.value s stand) c.in_ok-add_heard.ensures (c.loop-at.invariant s stand)

pub returns : goal.returns
returns c = λ s stand.
    sym (append-nil c.loop-at.text)
    ∙ (ap (λ t. c.loop-at.text ++ t) (sym (at_drop_all (heard_from s c.args.now.0 c.loop-at.at) c.args.names.now c.loop-at.at c.loop-at-test.false))
    ∙ c.loop-at.invariant s stand)
