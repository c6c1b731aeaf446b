use Rattle.network_file.proofs.Fitting.{calls_are_calls, calls_differ, declared_once, no_mail_at_prompts, pairs_are_pairs, settings_fit, settings_in_range}
use Rattle.network_file.proofs.laws.networks_fit.Goals as goal

pub returns : goal.returns
returns c =
    let reads = c.call_texts.ensures in
    record { declared = declared_once reads; differ = calls_differ reads; settings = settings_fit reads; mail = no_mail_at_prompts reads; ranges = settings_in_range reads; calls = calls_are_calls reads; pairs = pairs_are_pairs reads }
