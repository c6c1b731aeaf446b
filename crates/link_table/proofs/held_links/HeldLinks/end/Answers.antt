use Rattle.std.proofs.Common.{◌∙◌, ap, ◌∷◌, []}
use Rattle.link_table.specs.declared.held_links.HeldLinks.{HeldLinks}
use Rattle.link_table.proofs.LinkOffers.{ends, ends_none, rests_removed}
use Rattle.link_table.proofs.held_links.HeldLinks.end.Goals as goal

pub returns-in_ok-note-clause-rests : goal.returns-in_ok-note-clause-rests
returns-in_ok-note-clause-rests c = rests_removed c.args.self.now _ c.args.peer.now c.requires c.remove.ensures.left

pub returns-in_ok-note-clause-goes : goal.returns-in_ok-note-clause-goes
returns-in_ok-note-clause-goes c = λ t s.
    let rest = c.remove.ensures.rest in
    ends c.args.self.now _ c.args.peer.now (c.args.notice ∷ []) c.remove.result c.remove.ensures.stood c.if-remove.true
    (record { own = ap (λ (x : HeldLinks). x.own) rest; by_links = ap (λ (x : HeldLinks). x.by_links) rest; modulus = ap (λ (x : HeldLinks). x.modulus) rest; config = ap (λ (x : HeldLinks). x.config) rest; paths = ap (λ (x : HeldLinks). x.paths.entries) rest })
    c.remove.ensures.left
    (c.in_ok-note.ensures.waiting ∙ ap (λ (x : HeldLinks). x.pending.waiting.items) rest)
    (rw (ap (λ (x : HeldLinks). x.pending.lost.items) rest) at c.in_ok-note.ensures.lost)
    (rw (ap (λ (x : HeldLinks). x.pending.notices.items) rest) at c.in_ok-note.ensures.notices)
    (c.in_ok-note.ensures.frames ∙ ap (λ (x : HeldLinks). x.pending.frames.items) rest) t s

pub returns-else-remove-clause-rests : goal.returns-else-remove-clause-rests
returns-else-remove-clause-rests c = rests_removed c.args.self.now _ c.args.peer.now c.requires c.remove.ensures.left

pub returns-else-remove-clause-goes : goal.returns-else-remove-clause-goes
returns-else-remove-clause-goes c = λ t s.
    let rest = c.remove.ensures.rest in
    ends_none c.args.self.now c.remove.new.self c.args.peer.now (c.args.notice ∷ []) c.remove.result c.remove.ensures.stood c.if-remove.false
    (record { own = ap (λ (x : HeldLinks). x.own) rest; by_links = ap (λ (x : HeldLinks). x.by_links) rest; modulus = ap (λ (x : HeldLinks). x.modulus) rest; config = ap (λ (x : HeldLinks). x.config) rest; paths = ap (λ (x : HeldLinks). x.paths.entries) rest })
    c.remove.ensures.left (ap (λ (x : HeldLinks). x.pending) rest) t s
