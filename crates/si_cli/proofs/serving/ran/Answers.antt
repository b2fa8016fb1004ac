use Rattle.std.proofs.Common.{◌≡◌, ◌∙◌, ap, subst}
use Rattle.si_plain.specs.Characters.{characters_of}
use Rattle.si_world.specs.Rounds.{Serves}
use Rattle.si_world.specs.Worlds.{WorldView, first_of}
use Rattle.si_cli.specs.Service.{without_mark}
use Rattle.si_cli.proofs.serving.ran.Goals as goal

pub returns-clause-ran : goal.returns-clause-ran
returns-clause-ran c =
    let world = c.serial-turns.new.self in
    let first : c.prepare.new.self ≡ first_of (characters_of (without_mark c.args.script.now)) c.args.limits =
    c.prepare.ensures ∙ c.in_ok-world.ensures ∙ ap (λ text. first_of (characters_of text) c.args.limits) c.in_ok-text.ensures.text in
    record {
      body = c.in_ok-text.ensures.read.0;
      read = c.in_ok-text.ensures.read.1;
      run = record {
        turns = c.serial-turns.result;
        serves = subst (λ (w : WorldView). Serves w c.serial-turns.result world) first c.serial-turns.ensures.serves;
        rest = c.serial-turns.ensures.rest;
        world = c.facts.ensures.world;
        legal = c.facts.ensures.legal;
        core = c.facts.ensures.core;
      };
    }
