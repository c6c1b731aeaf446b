use Rattle.std.proofs.Common.{◌≡◌, inl, inr, refl}
use Rattle.node_cmd.specs.declared.command.RunCommand.TheVariants.{Replay, Frames, Soak, Life, Node, Ip}
use Rattle.radio_base.specs.Modulus.{modulus_size}
use Rattle.tool_cmd.specs.Standing.{state_of}
use Rattle.node_cmd.proofs.Commands.{one_declared, one_gateway, one_life, one_modulus, one_seed, other, runs_one}
use Rattle.node_cmd.proofs.NodeEnding.{never_usage}
use Rattle.node_cmd.proofs.top.run.Goals as goal

-- ---- a command's own clause

-- words name one modulus
pub returns-in-Some-Frames-clause-frames : goal.returns-in-Some-Frames-clause-frames
returns-in-Some-Frames-clause-frames g c = λ m asked.
    let found = rw c.in-Some-Frames.field-0-is at c.in-Some-Frames.ensures.found in
    let same : modulus_size c.in-Some-Frames.modulus ≡ modulus_size m = one_modulus c.args.words.now c.in-Some-Frames.modulus m found asked in
    rw (← same) c.frames_of_stream.ensures.ends

-- a word spells one number
pub returns-in-Some-Soak-clause-soak : goal.returns-in-Some-Soak-clause-soak
returns-in-Some-Soak-clause-soak g c = λ seed asked.
    let found = rw c.in-Some-Soak.field-0-is at c.in-Some-Soak.ensures.found in
    let same : c.in-Some-Soak.seed ≡ seed = one_seed c.args.words.now c.in-Some-Soak.seed seed found asked in
    rw (← same) c.soak.ensures.ends

-- words give the settings of one life
pub returns-in-Some-Life-clause-life : goal.returns-in-Some-Life-clause-life
returns-in-Some-Life-clause-life g c = λ s asked.
    let found = rw c.in-Some-Life.field-0-is at c.in-Some-Life.ensures.found in
    let same : c.in-Some-Life.settings ≡ s = one_life c.words_ask_for_one.ensures.life c.args.words.now c.in-Some-Life.settings s found asked in
    rw (← same) c.life_of_file.ensures.ends

-- words declare one node
pub returns-in-Some-Node-clause-node : goal.returns-in-Some-Node-clause-node
returns-in-Some-Node-clause-node g c = λ declared asked.
    let found = rw c.in-Some-Node.field-0-is at c.in-Some-Node.ensures.found in
    let same : c.in-Some-Node.declared ≡ declared = one_declared c.args.words.now c.in-Some-Node.declared declared found asked in
    rw (← same) c.run_node.ensures.ends

-- words give one gateway
pub returns-in-Some-Ip-clause-ip : goal.returns-in-Some-Ip-clause-ip
returns-in-Some-Ip-clause-ip g c = λ gateway asked.
    let found = rw c.in-Some-Ip.field-0-is at c.in-Some-Ip.ensures.found in
    let same : state_of c.in-Some-Ip.gateway ≡ state_of gateway = one_gateway c.words_ask_for_one.ensures.gateway c.args.words.now c.in-Some-Ip.gateway gateway found asked in
    rw (← same) c.ip_over_stream.ensures.ends

-- ---- the clauses of the others

pub returns-in-Some-Replay-clause-frames : goal.returns-in-Some-Replay-clause-frames
returns-in-Some-Replay-clause-frames g c = λ m asked. absurd (other c.args.words.now Replay (Frames m) refl (rw c.in-Some-Replay.field-0-is at c.in-Some-Replay.ensures.found) asked)

pub returns-in-Some-Replay-clause-soak : goal.returns-in-Some-Replay-clause-soak
returns-in-Some-Replay-clause-soak g c = λ seed asked. absurd (other c.args.words.now Replay (Soak seed) refl (rw c.in-Some-Replay.field-0-is at c.in-Some-Replay.ensures.found) asked)

pub returns-in-Some-Replay-clause-life : goal.returns-in-Some-Replay-clause-life
returns-in-Some-Replay-clause-life g c = λ s asked. absurd (other c.args.words.now Replay (Life s) refl (rw c.in-Some-Replay.field-0-is at c.in-Some-Replay.ensures.found) asked)

pub returns-in-Some-Replay-clause-node : goal.returns-in-Some-Replay-clause-node
returns-in-Some-Replay-clause-node g c = λ declared asked. absurd (other c.args.words.now Replay (Node declared) refl (rw c.in-Some-Replay.field-0-is at c.in-Some-Replay.ensures.found) asked)

pub returns-in-Some-Replay-clause-ip : goal.returns-in-Some-Replay-clause-ip
returns-in-Some-Replay-clause-ip g c = λ gateway asked. absurd (other c.args.words.now Replay (Ip gateway) refl (rw c.in-Some-Replay.field-0-is at c.in-Some-Replay.ensures.found) asked)

pub returns-in-Some-Replay-clause-sourceless : goal.returns-in-Some-Replay-clause-sourceless
returns-in-Some-Replay-clause-sourceless g c = λ seed asked. absurd (other c.args.words.now Replay (Soak seed) refl (rw c.in-Some-Replay.field-0-is at c.in-Some-Replay.ensures.found) asked)

pub returns-in-Some-Replay-clause-no_network : goal.returns-in-Some-Replay-clause-no_network
returns-in-Some-Replay-clause-no_network g c = λ asked. absurd (runs_one c.args.words.now Replay refl refl refl (rw c.in-Some-Replay.field-0-is at c.in-Some-Replay.ensures.found) asked)

pub returns-in-Some-Frames-clause-replay : goal.returns-in-Some-Frames-clause-replay
returns-in-Some-Frames-clause-replay g c = λ asked. absurd (other c.args.words.now (Frames c.in-Some-Frames.modulus) Replay refl (rw c.in-Some-Frames.field-0-is at c.in-Some-Frames.ensures.found) asked)

pub returns-in-Some-Frames-clause-soak : goal.returns-in-Some-Frames-clause-soak
returns-in-Some-Frames-clause-soak g c = λ seed asked. absurd (other c.args.words.now (Frames c.in-Some-Frames.modulus) (Soak seed) refl (rw c.in-Some-Frames.field-0-is at c.in-Some-Frames.ensures.found) asked)

pub returns-in-Some-Frames-clause-life : goal.returns-in-Some-Frames-clause-life
returns-in-Some-Frames-clause-life g c = λ s asked. absurd (other c.args.words.now (Frames c.in-Some-Frames.modulus) (Life s) refl (rw c.in-Some-Frames.field-0-is at c.in-Some-Frames.ensures.found) asked)

pub returns-in-Some-Frames-clause-node : goal.returns-in-Some-Frames-clause-node
returns-in-Some-Frames-clause-node g c = λ declared asked. absurd (other c.args.words.now (Frames c.in-Some-Frames.modulus) (Node declared) refl (rw c.in-Some-Frames.field-0-is at c.in-Some-Frames.ensures.found) asked)

pub returns-in-Some-Frames-clause-ip : goal.returns-in-Some-Frames-clause-ip
returns-in-Some-Frames-clause-ip g c = λ gateway asked. absurd (other c.args.words.now (Frames c.in-Some-Frames.modulus) (Ip gateway) refl (rw c.in-Some-Frames.field-0-is at c.in-Some-Frames.ensures.found) asked)

pub returns-in-Some-Frames-clause-sourceless : goal.returns-in-Some-Frames-clause-sourceless
returns-in-Some-Frames-clause-sourceless g c = λ seed asked. absurd (other c.args.words.now (Frames c.in-Some-Frames.modulus) (Soak seed) refl (rw c.in-Some-Frames.field-0-is at c.in-Some-Frames.ensures.found) asked)

pub returns-in-Some-Frames-clause-whole : goal.returns-in-Some-Frames-clause-whole
returns-in-Some-Frames-clause-whole g c = λ answers. absurd (answers (inl (c.in-Some-Frames.modulus, rw c.in-Some-Frames.field-0-is at c.in-Some-Frames.ensures.found)))

pub returns-in-Some-Soak-clause-replay : goal.returns-in-Some-Soak-clause-replay
returns-in-Some-Soak-clause-replay g c = λ asked. absurd (other c.args.words.now (Soak c.in-Some-Soak.seed) Replay refl (rw c.in-Some-Soak.field-0-is at c.in-Some-Soak.ensures.found) asked)

pub returns-in-Some-Soak-clause-frames : goal.returns-in-Some-Soak-clause-frames
returns-in-Some-Soak-clause-frames g c = λ m asked. absurd (other c.args.words.now (Soak c.in-Some-Soak.seed) (Frames m) refl (rw c.in-Some-Soak.field-0-is at c.in-Some-Soak.ensures.found) asked)

pub returns-in-Some-Soak-clause-life : goal.returns-in-Some-Soak-clause-life
returns-in-Some-Soak-clause-life g c = λ s asked. absurd (other c.args.words.now (Soak c.in-Some-Soak.seed) (Life s) refl (rw c.in-Some-Soak.field-0-is at c.in-Some-Soak.ensures.found) asked)

pub returns-in-Some-Soak-clause-node : goal.returns-in-Some-Soak-clause-node
returns-in-Some-Soak-clause-node g c = λ declared asked. absurd (other c.args.words.now (Soak c.in-Some-Soak.seed) (Node declared) refl (rw c.in-Some-Soak.field-0-is at c.in-Some-Soak.ensures.found) asked)

pub returns-in-Some-Soak-clause-ip : goal.returns-in-Some-Soak-clause-ip
returns-in-Some-Soak-clause-ip g c = λ gateway asked. absurd (other c.args.words.now (Soak c.in-Some-Soak.seed) (Ip gateway) refl (rw c.in-Some-Soak.field-0-is at c.in-Some-Soak.ensures.found) asked)

pub returns-in-Some-Soak-clause-no_network : goal.returns-in-Some-Soak-clause-no_network
returns-in-Some-Soak-clause-no_network g c = λ asked. absurd (runs_one c.args.words.now (Soak c.in-Some-Soak.seed) refl refl refl (rw c.in-Some-Soak.field-0-is at c.in-Some-Soak.ensures.found) asked)

pub returns-in-Some-Life-clause-replay : goal.returns-in-Some-Life-clause-replay
returns-in-Some-Life-clause-replay g c = λ asked. absurd (other c.args.words.now (Life c.in-Some-Life.settings) Replay refl (rw c.in-Some-Life.field-0-is at c.in-Some-Life.ensures.found) asked)

pub returns-in-Some-Life-clause-frames : goal.returns-in-Some-Life-clause-frames
returns-in-Some-Life-clause-frames g c = λ m asked. absurd (other c.args.words.now (Life c.in-Some-Life.settings) (Frames m) refl (rw c.in-Some-Life.field-0-is at c.in-Some-Life.ensures.found) asked)

pub returns-in-Some-Life-clause-soak : goal.returns-in-Some-Life-clause-soak
returns-in-Some-Life-clause-soak g c = λ seed asked. absurd (other c.args.words.now (Life c.in-Some-Life.settings) (Soak seed) refl (rw c.in-Some-Life.field-0-is at c.in-Some-Life.ensures.found) asked)

pub returns-in-Some-Life-clause-node : goal.returns-in-Some-Life-clause-node
returns-in-Some-Life-clause-node g c = λ declared asked. absurd (other c.args.words.now (Life c.in-Some-Life.settings) (Node declared) refl (rw c.in-Some-Life.field-0-is at c.in-Some-Life.ensures.found) asked)

pub returns-in-Some-Life-clause-ip : goal.returns-in-Some-Life-clause-ip
returns-in-Some-Life-clause-ip g c = λ gateway asked. absurd (other c.args.words.now (Life c.in-Some-Life.settings) (Ip gateway) refl (rw c.in-Some-Life.field-0-is at c.in-Some-Life.ensures.found) asked)

pub returns-in-Some-Life-clause-sourceless : goal.returns-in-Some-Life-clause-sourceless
returns-in-Some-Life-clause-sourceless g c = λ seed asked. absurd (other c.args.words.now (Life c.in-Some-Life.settings) (Soak seed) refl (rw c.in-Some-Life.field-0-is at c.in-Some-Life.ensures.found) asked)

pub returns-in-Some-Node-clause-replay : goal.returns-in-Some-Node-clause-replay
returns-in-Some-Node-clause-replay g c = λ asked. absurd (other c.args.words.now (Node c.in-Some-Node.declared) Replay refl (rw c.in-Some-Node.field-0-is at c.in-Some-Node.ensures.found) asked)

pub returns-in-Some-Node-clause-frames : goal.returns-in-Some-Node-clause-frames
returns-in-Some-Node-clause-frames g c = λ m asked. absurd (other c.args.words.now (Node c.in-Some-Node.declared) (Frames m) refl (rw c.in-Some-Node.field-0-is at c.in-Some-Node.ensures.found) asked)

pub returns-in-Some-Node-clause-soak : goal.returns-in-Some-Node-clause-soak
returns-in-Some-Node-clause-soak g c = λ seed asked. absurd (other c.args.words.now (Node c.in-Some-Node.declared) (Soak seed) refl (rw c.in-Some-Node.field-0-is at c.in-Some-Node.ensures.found) asked)

pub returns-in-Some-Node-clause-life : goal.returns-in-Some-Node-clause-life
returns-in-Some-Node-clause-life g c = λ s asked. absurd (other c.args.words.now (Node c.in-Some-Node.declared) (Life s) refl (rw c.in-Some-Node.field-0-is at c.in-Some-Node.ensures.found) asked)

pub returns-in-Some-Node-clause-ip : goal.returns-in-Some-Node-clause-ip
returns-in-Some-Node-clause-ip g c = λ gateway asked. absurd (other c.args.words.now (Node c.in-Some-Node.declared) (Ip gateway) refl (rw c.in-Some-Node.field-0-is at c.in-Some-Node.ensures.found) asked)

pub returns-in-Some-Node-clause-sourceless : goal.returns-in-Some-Node-clause-sourceless
returns-in-Some-Node-clause-sourceless g c = λ seed asked. absurd (other c.args.words.now (Node c.in-Some-Node.declared) (Soak seed) refl (rw c.in-Some-Node.field-0-is at c.in-Some-Node.ensures.found) asked)

pub returns-in-Some-Node-clause-no_network : goal.returns-in-Some-Node-clause-no_network
returns-in-Some-Node-clause-no_network g c = λ asked. absurd (runs_one c.args.words.now (Node c.in-Some-Node.declared) refl refl refl (rw c.in-Some-Node.field-0-is at c.in-Some-Node.ensures.found) asked)

pub returns-in-Some-Ip-clause-replay : goal.returns-in-Some-Ip-clause-replay
returns-in-Some-Ip-clause-replay g c = λ asked. absurd (other c.args.words.now (Ip c.in-Some-Ip.gateway) Replay refl (rw c.in-Some-Ip.field-0-is at c.in-Some-Ip.ensures.found) asked)

pub returns-in-Some-Ip-clause-frames : goal.returns-in-Some-Ip-clause-frames
returns-in-Some-Ip-clause-frames g c = λ m asked. absurd (other c.args.words.now (Ip c.in-Some-Ip.gateway) (Frames m) refl (rw c.in-Some-Ip.field-0-is at c.in-Some-Ip.ensures.found) asked)

pub returns-in-Some-Ip-clause-soak : goal.returns-in-Some-Ip-clause-soak
returns-in-Some-Ip-clause-soak g c = λ seed asked. absurd (other c.args.words.now (Ip c.in-Some-Ip.gateway) (Soak seed) refl (rw c.in-Some-Ip.field-0-is at c.in-Some-Ip.ensures.found) asked)

pub returns-in-Some-Ip-clause-life : goal.returns-in-Some-Ip-clause-life
returns-in-Some-Ip-clause-life g c = λ s asked. absurd (other c.args.words.now (Ip c.in-Some-Ip.gateway) (Life s) refl (rw c.in-Some-Ip.field-0-is at c.in-Some-Ip.ensures.found) asked)

pub returns-in-Some-Ip-clause-node : goal.returns-in-Some-Ip-clause-node
returns-in-Some-Ip-clause-node g c = λ declared asked. absurd (other c.args.words.now (Ip c.in-Some-Ip.gateway) (Node declared) refl (rw c.in-Some-Ip.field-0-is at c.in-Some-Ip.ensures.found) asked)

pub returns-in-Some-Ip-clause-sourceless : goal.returns-in-Some-Ip-clause-sourceless
returns-in-Some-Ip-clause-sourceless g c = λ seed asked. absurd (other c.args.words.now (Ip c.in-Some-Ip.gateway) (Soak seed) refl (rw c.in-Some-Ip.field-0-is at c.in-Some-Ip.ensures.found) asked)

pub returns-in-Some-Ip-clause-whole : goal.returns-in-Some-Ip-clause-whole
returns-in-Some-Ip-clause-whole g c = λ answers. absurd (answers (inr (c.in-Some-Ip.gateway, rw c.in-Some-Ip.field-0-is at c.in-Some-Ip.ensures.found)))

-- ---- the other clauses of a live node

pub returns-in-Some-Node-clause-usage : goal.returns-in-Some-Node-clause-usage
returns-in-Some-Node-clause-usage g c = (λ is. absurd (never_usage _ _ _ _ _ _ _ c.run_node.ensures.ends is), λ none. absurd (none (Node c.in-Some-Node.declared) (rw c.in-Some-Node.field-0-is at c.in-Some-Node.ensures.found)))

pub returns-in-Some-Node-clause-unread : goal.returns-in-Some-Node-clause-unread
returns-in-Some-Node-clause-unread g c = λ is. absurd (never_usage _ _ _ _ _ _ _ c.run_node.ensures.ends is)

pub returns-in-Some-Node-clause-unwritten : goal.returns-in-Some-Node-clause-unwritten
returns-in-Some-Node-clause-unwritten g c = λ is. absurd (never_usage _ _ _ _ _ _ _ c.run_node.ensures.ends is)

pub returns-in-Some-Node-clause-usage_noted : goal.returns-in-Some-Node-clause-usage_noted
returns-in-Some-Node-clause-usage_noted g c = λ is. absurd (never_usage _ _ _ _ _ _ _ c.run_node.ensures.ends is)

pub returns-in-Some-Node-clause-whole : goal.returns-in-Some-Node-clause-whole
returns-in-Some-Node-clause-whole g c = λ stream live. absurd (live (c.in-Some-Node.declared, rw c.in-Some-Node.field-0-is at c.in-Some-Node.ensures.found))

pub returns-in-Some-Node-clause-nothing : goal.returns-in-Some-Node-clause-nothing
returns-in-Some-Node-clause-nothing g c = λ done late. c.run_node.ensures.nothing done

pub returns-in-Some-Node-clause-timeless : goal.returns-in-Some-Node-clause-timeless
returns-in-Some-Node-clause-timeless g c = λ answers. absurd (answers (c.in-Some-Node.declared, rw c.in-Some-Node.field-0-is at c.in-Some-Node.ensures.found))

-- ---- where the words are no command's

pub returns-in-None-clause-replay : goal.returns-in-None-clause-replay
returns-in-None-clause-replay g c = λ asked. absurd (c.in-None.ensures.none Replay asked)

pub returns-in-None-clause-frames : goal.returns-in-None-clause-frames
returns-in-None-clause-frames g c = λ m asked. absurd (c.in-None.ensures.none (Frames m) asked)

pub returns-in-None-clause-soak : goal.returns-in-None-clause-soak
returns-in-None-clause-soak g c = λ seed asked. absurd (c.in-None.ensures.none (Soak seed) asked)

pub returns-in-None-clause-life : goal.returns-in-None-clause-life
returns-in-None-clause-life g c = λ s asked. absurd (c.in-None.ensures.none (Life s) asked)

pub returns-in-None-clause-node : goal.returns-in-None-clause-node
returns-in-None-clause-node g c = λ declared asked. absurd (c.in-None.ensures.none (Node declared) asked)

pub returns-in-None-clause-ip : goal.returns-in-None-clause-ip
returns-in-None-clause-ip g c = λ gateway asked. absurd (c.in-None.ensures.none (Ip gateway) asked)
