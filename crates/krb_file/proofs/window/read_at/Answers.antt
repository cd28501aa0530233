use Rattle.std.proofs.Common.{◌≡◌, ◌+◌, ◌≤◌, ◌∙◌, ap, length, sym, take, arith}
use Rattle.std.proofs.lemmas.List.{length-take, length-drop}
use Rattle.krb_file.proofs.WindowLaws.{came_at, came_within}
use Rattle.krb_file.proofs.window.read_at.Goals as goal

pub returns-clause-at : goal.returns-clause-at
returns-clause-at g c =
    let old = c.args.bytes.now.items in
    let at = c.args.at in
    let came = c.in_ok-read.field-0 in
    let bound = c.in_ok-read.ensures.bound in
    let room = simp (length-take, length-drop) at c.read.auto.buffer in
    let asked : length c.read.new.buffer ≡ c.args.most = omega (arith, room, c.in_ok-make_room.ensures.room, c.deref_mut.ensures.len, c.make_room.new.bytes.ok.0) in
    let some : came ≤ c.args.most = omega (arith, asked, bound.0) in
    let front : take at c.deref_mut.result.now ≡ take at old = ap (take at) c.deref_mut.ensures.value ∙ c.in_ok-make_room.ensures.kept at c.requires.at in
    let fits : at + came ≤ c.make_room.new.bytes.len = omega (arith, some, c.in_ok-make_room.ensures.room, c.make_room.new.bytes.ok.0) in
    record {
      piece = take came c.read.new.buffer;
      consumed = c.in_ok-read.ensures.bytes.0;
      within = came_within old _ c.read.new.buffer _ _ at _ came c.requires.at front bound.0 fits;
      bytes = came_at old _ c.read.new.buffer _ _ at _ came c.requires.at front bound.0 fits;
      one = (sym bound.1, some, λ none. c.in_ok-read.ensures.bytes.1 none (omega (arith, asked, c.requires.some)));
    }
