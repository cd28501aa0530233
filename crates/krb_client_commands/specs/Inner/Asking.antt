-- What words of the command line ask of `request` and of `finish`.
use Rattle.std.specs.Prelude.{◌≡◌, Ok}
use Rattle.hex.specs.Hex.{decode_of}
use Rattle.krb_command_line.specs.declared.command_line.FinishWords.{FinishWords}
use Rattle.krb_command_line.specs.declared.command_line.RequestWords.{RequestWords}
use Rattle.krb_call_lines.specs.CallLine.{SpellsConfounder}
use Rattle.krb_file_commands.specs.Words.{Asks}
use Rattle.krb_client_commands.specs.Requesting.{IsTokenWord}
use Rattle.krb_client_commands.specs.Words.{IsMoment, IsServiceName}
use Rattle.krb_client_commands.specs.declared.finish.Replied.{Replied}
use Rattle.krb_client_commands.specs.declared.request.Asked.{Asked}

-- the words of `request` ask for this
pub record AsksRequest (words : RequestWords) (asked : Asked) : Type 0 where
  pub moment : IsMoment words.time.now words.usec.now asked.at
  pub service : IsServiceName words.service.now asked.service
  pub confounder : SpellsConfounder words.confounder.now asked.confounder
  pub wants_reply : asked.wants_reply ≡ words.mutual
  pub wrapping : Asks IsTokenWord words.token asked.wrapping

-- the words of `finish` ask for this
pub record AsksFinish (words : FinishWords) (replied : Replied) : Type 0 where
  pub moment : IsMoment words.time.now words.usec.now replied.at
  pub service : IsServiceName words.service.now replied.service
  pub reply : decode_of words.reply.now ≡ Ok replied.reply.items
