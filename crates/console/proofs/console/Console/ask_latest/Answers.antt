use Rattle.console.proofs.StandsAfter.{answered_as_asked, plain_asked, sided_asked, ring_asked}
use Rattle.console.proofs.console.Console.ask_latest.Goals as goal

pub returns-in-Plain-clause-answered : goal.returns-in-Plain-clause-answered
returns-in-Plain-clause-answered c = λ h s. answered_as_asked h c.args.command.now c.requires.asks _ _ _ (plain_asked h c.args.self.now s c.in-Plain.is c.args.command.now c.ask.result c.ask.new.sheet c.ask.new.planner c.ask.ensures.asked)

pub returns-in-Sided-clause-answered : goal.returns-in-Sided-clause-answered
returns-in-Sided-clause-answered c = λ h s. answered_as_asked h c.args.command.now c.requires.asks _ _ _ (sided_asked h c.args.self.now s c.in-Sided.is c.args.command.now c.ask-in-Sided.result c.ask-in-Sided.new.sheet c.ask-in-Sided.new.planner c.ask-in-Sided.ensures.asked)

pub returns-in-Ring-clause-answered : goal.returns-in-Ring-clause-answered
returns-in-Ring-clause-answered c = λ h s. answered_as_asked h c.args.command.now c.requires.asks _ _ _ (ring_asked h c.args.self.now s c.in-Ring.is c.args.command.now c.ask-in-Ring.result c.ask-in-Ring.new.sheet c.ask-in-Ring.new.planner c.ask-in-Ring.ensures.asked)
