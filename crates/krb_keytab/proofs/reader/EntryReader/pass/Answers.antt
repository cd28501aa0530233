use Rattle.std.proofs.Common.{Ok, Err, None, refl}
use Rattle.krb_keytab.proofs.StandLaws.{read_first, read_next, read_past, read_again}
use Rattle.krb_keytab.proofs.reader.EntryReader.pass.Goals as goal
use Rattle.krb_keytab.proofs.reader.EntryReader.pass.Goals.{in-Start, in-Records}

pub returns-in-End-clause-reads : goal.returns-in-End-clause-reads
returns-in-End-clause-reads g c = λ bytes entries read. let again = read_again _ _ bytes entries read in (Ok None, refl, again.0, again.1, again.2)

pub returns-in-Failed-clause-reads : goal.returns-in-Failed-clause-reads
returns-in-Failed-clause-reads g c = λ bytes entries read. let again = read_again _ _ bytes entries read in (Err c.in-Failed.fault, refl, again.0, again.1, again.2)

pub returns-clause-reads : goal.returns-clause-reads
returns-clause-reads g c =
    elim c.match-self.branch [
      | in-Start w ↦
          let past = w.pass_first-answer.ensures.meets in
          rw (c.after_pass-self-inside.ensures, w.answer-is, w.self-inside-is, ← c.self.view_is)
          (read_past _ _ _ w.pass_first-answer.new.feed _ past.0 past.1 (read_first g.S.Source.remaining _ c.self.inside.window w.pass_first-answer.new.feed past.0 w.in-Start.is refl past.2 (rw w.in-Start.is at c.self.invariant.1)))
      | in-Records w ↦
          let past = w.pass_entry-answer.ensures.meets in
          rw (c.after_pass-self-inside.ensures, w.answer-is, w.self-inside-is, ← c.self.view_is)
          (read_past _ _ _ w.pass_entry-answer.new.feed _ past.answer past.said_is (read_next g.S.Source.remaining _ c.self.inside.window w.pass_entry-answer.new.feed past.answer w.in-Records.is refl refl past.meets))
    ]
