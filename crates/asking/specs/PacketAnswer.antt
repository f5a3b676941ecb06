-- What the code's answers about packets mean. Assumes nothing.
use Rattle.std.specs.Prelude.{Result, Ok, Err}
use Rattle.protocol.specs.Refusal as rules
use Rattle.verdicts.specs.declared.Refusal.{Refusal}
use Rattle.verdicts.specs.Verdict.{refusal_of}
use Rattle.answers.specs.Answers.{figures_of, compared_of, map_answer}
use Rattle.asking.specs.declared.PacketAnswer.{PacketAnswer}
use Rattle.asking.specs.declared.PacketAnswer.TheVariants.{Figures, Compared}
use Rattle.asking.specs.AskPackets.{PacketFindings, figures, compares}

abbrev pub packet_answer_of : Result PacketAnswer Refusal → rules.Answer PacketFindings
packet_answer_of (Ok (Figures f)) = rules.done (figures (figures_of f))
packet_answer_of (Ok (Compared c)) = map_answer compares (compared_of c)
packet_answer_of (Err e) = rules.refused (refusal_of e)
