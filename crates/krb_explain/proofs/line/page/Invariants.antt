use Rattle.std.proofs.Common.{◌≡◌, string_bytes, take}
use Rattle.krb_explain.specs.Page.{page_of}
use Rattle.krb_explain.proofs.line.page.Given as goal

abbrev pub invariant-loop-line : goal.invariant-loop-line
invariant-loop-line l = string_bytes l.text ≡ page_of (take l.line-index l.lines)
