use Rattle.mail_box.proofs.laws.found_again.Goals as goal

pub returns : goal.returns
returns g c kept found k may = g.met.L.Log.settled c.args.post.now.log kept found k.log may
