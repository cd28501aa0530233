use Rattle.std.proofs.Common.{refl}
use Rattle.krb_keytab.proofs.StandLaws.{read_first, read_next, read_again}
use Rattle.krb_keytab.proofs.reader.EntryReader.next.Goals as goal
use Rattle.krb_keytab.proofs.reader.EntryReader.next.Goals.{in-Start, in-Records}

pub returns-in-End-clause-reads : goal.returns-in-End-clause-reads
returns-in-End-clause-reads g c = λ bytes entries read. read_again _ _ bytes entries read

pub returns-in-Failed-clause-reads : goal.returns-in-Failed-clause-reads
returns-in-Failed-clause-reads g c = λ bytes entries read. read_again _ _ bytes entries read

pub returns-clause-reads : goal.returns-clause-reads
returns-clause-reads g c =
    elim c.match-self.branch [
      | in-Start w ↦
          rw (c.after-self-inside.ensures, w.answer-is, w.self-inside-is, ← c.self.view_is)
          (read_first g.S.Source.remaining _ c.self.inside.window w.read_first-answer.new.feed w.read_first-answer.result w.in-Start.is refl w.read_first-answer.ensures.meets (rw w.in-Start.is at c.self.invariant.1))
      | in-Records w ↦
          rw (c.after-self-inside.ensures, w.answer-is, w.self-inside-is, ← c.self.view_is)
          (read_next g.S.Source.remaining _ c.self.inside.window w.read_entry-answer.new.feed w.read_entry-answer.result w.in-Records.is refl refl w.read_entry-answer.ensures.meets)
    ]
