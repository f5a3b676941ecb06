-- What the answers of code mean. Assumes nothing.
use Rattle.std.specs.Prelude.{Result}
use Rattle.protocol.specs.Words.{value}
use Rattle.protocol.specs.Refusal as rules
use Rattle.verdicts.specs.declared.Refusal.{Refusal}
use Rattle.answers.specs.Answers.{answered, choice_of}
use Rattle.asking.specs.declared.ChainAnswer.{ChainAnswer}
use Rattle.asking.specs.declared.ChainAnswer.TheVariants.{Found, Settled}
use Rattle.asking.specs.Ask.{Findings, findings, settled_is}

abbrev pub findings_of : ChainAnswer → Findings
findings_of (Found h d f) = findings (value h) (value d) (choice_of f)
findings_of (Settled b) = settled_is (value b)

abbrev pub chain_answer_of : Result ChainAnswer Refusal → rules.Answer Findings
chain_answer_of = answered findings_of
