use Rattle.std.proofs.Common.{refl, option_map, Some, rules}
use Rattle.line_faults.specs.Finding.{FindingValue}
use Rattle.line_faults.specs.Misfits.{meant_in}
use Rattle.line_faults.specs.Subjects.{subject_in}
use Rattle.line_faults.proofs.Told.{about_subject, names_meant}
use Rattle.line_faults.proofs.explanation.finding_of.Goals as goal

pub returns-clause-is : goal.returns-clause-is
returns-clause-is c =
    let line = c.args.line.now in
    let finding : FindingValue = record {
      line = line.number;
      reply = Some line.reply.now;
      refusal = Some c.from.result;
      name = Some c.args.name.now;
      says = c.on_one_line.result.now;
      column = c.args.why.now.column;
      member = option_map (λ t. t.now) c.member.result;
      found = option_map (λ t. t.now) c.found.result;
      wanted = option_map (λ t. t.now) c.wanted.result;
    } in
    record {
      coded = (c.args.code, c.args.name.now);
      tells = c.requires.tells;
      numbered = refl;
      replied = refl;
      refusal = search (rules, c.from.ensures);
      name = refl;
      meant = names_meant (meant_in line.number line.bytes.now c.args.code) c.args.why.now finding c.requires.meant
          c.member.ensures c.wanted.ensures;
      subject = about_subject (subject_in line.number line.bytes.now c.args.code) c.args.why.now finding c.requires.subject
          c.member.ensures;
      one = c.on_one_line.ensures.one;
    }
