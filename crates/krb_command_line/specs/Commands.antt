-- Made from commands.toml by `make generate`. Don't edit this file.
-- The operands and options, the commands that have them, and what a command has of each.
use Rattle.std.specs.Prelude.{List, [], ◌∷◌, ◌++◌, None, true, false, codes}
use Rattle.clap.specs.Words.{Rule}
use Rattle.krb_command_line.specs.Arguments.{Entry, Value, excluding_another, flag, given, needed, needing_another, number, operand, option, optional, optional_operand, with_default, word}
use Rattle.krb_command_line.specs.declared.command_line.Command.{Command}
use Rattle.krb_command_line.specs.declared.command_line.Command.TheVariants.{ListKeytab, ListCcache, CheckKeytab, CheckCcache, ConvertKeytab, ConvertCcache, PickKey, RemoveKey, AddKeys, Request, Accept, Finish, Explain}
use Rattle.krb_command_line.specs.declared.command_line.CacheForm.TheVariants.{Lines, Table}

abbrev pub FILE : Rule
FILE = operand (codes "FILE")

abbrev pub KEYTAB : Rule
KEYTAB = operand (codes "KEYTAB")

abbrev pub FROM : Rule
FROM = operand (codes "FROM")

abbrev pub OUT : Rule
OUT = operand (codes "OUT")

abbrev pub SERVICE : Rule
SERVICE = operand (codes "SERVICE")

abbrev pub NAME : Rule
NAME = operand (codes "NAME")

abbrev pub ETYPE : Rule
ETYPE = operand (codes "ETYPE")

abbrev pub INDEX : Rule
INDEX = number 4_294_967_295 (operand (codes "INDEX"))

abbrev pub MESSAGE : Rule
MESSAGE = optional_operand (codes "MESSAGE")

abbrev pub now : Rule
now = needing_another (number 253_402_300_799 (option (codes "now")))

abbrev pub time : Rule
time = needed (number 253_402_300_799 (option (codes "time")))

abbrev pub usec : Rule
usec = needed (number 999_999 (option (codes "usec")))

abbrev pub confounder : Rule
confounder = needed (option (codes "confounder"))

abbrev pub reply : Rule
reply = needed (option (codes "reply"))

abbrev pub skew : Rule
skew = with_default (codes "300") (number 86_400 (option (codes "skew")))

abbrev pub kvno : Rule
kvno = number 4_294_967_295 (option (codes "kvno"))

abbrev pub file : Rule
file = excluding_another (option (codes "file"))

abbrev pub keytab : Rule
keytab = option (codes "keytab")

abbrev pub at : Rule
at = needing_another (number 253_402_300_799 (option (codes "at")))

abbrev pub out : Rule
out = option (codes "out")

abbrev pub token : Rule
token = option (codes "token")

abbrev pub started : Rule
started = number 253_402_300_799 (option (codes "started"))

abbrev pub service : Rule
service = option (codes "service")

abbrev pub only : Rule
only = option (codes "only")

abbrev pub readable : Rule
readable = flag (codes "readable")

abbrev pub «mutual» : Rule
«mutual» = flag (codes "mutual")

abbrev pub replace : Rule
replace = flag (codes "replace")

abbrev pub tokens : Rule
tokens = flag (codes "tokens")

abbrev pub list_keytab : Entry
list_keytab = record { name = codes "list-keytab"; arguments = readable ∷ FILE ∷ [] }

abbrev pub list_ccache : Entry
list_ccache = record { name = codes "list-ccache"; arguments = readable ∷ now ∷ FILE ∷ [] }

abbrev pub check_keytab : Entry
check_keytab = record { name = codes "check-keytab"; arguments = FILE ∷ [] }

abbrev pub check_ccache : Entry
check_ccache = record { name = codes "check-ccache"; arguments = FILE ∷ [] }

abbrev pub convert_keytab : Entry
convert_keytab = record { name = codes "convert-keytab"; arguments = FILE ∷ OUT ∷ replace ∷ [] }

abbrev pub convert_ccache : Entry
convert_ccache = record { name = codes "convert-ccache"; arguments = FILE ∷ OUT ∷ replace ∷ [] }

abbrev pub pick_key : Entry
pick_key = record { name = codes "pick-key"; arguments = KEYTAB ∷ NAME ∷ ETYPE ∷ kvno ∷ [] }

abbrev pub remove_key : Entry
remove_key = record { name = codes "remove-key"; arguments = KEYTAB ∷ INDEX ∷ out ∷ [] }

abbrev pub add_keys : Entry
add_keys = record { name = codes "add-keys"; arguments = KEYTAB ∷ FROM ∷ out ∷ [] }

abbrev pub request : Entry
request = record { name = codes "request"; arguments = FILE ∷ SERVICE ∷ time ∷ usec ∷ confounder ∷ «mutual» ∷ token ∷ [] }

abbrev pub accept : Entry
accept = record { name = codes "accept"; arguments = KEYTAB ∷ skew ∷ started ∷ service ∷ only ∷ tokens ∷ [] }

abbrev pub finish : Entry
finish = record { name = codes "finish"; arguments = FILE ∷ SERVICE ∷ time ∷ usec ∷ reply ∷ [] }

abbrev pub explain : Entry
explain = record { name = codes "explain"; arguments = MESSAGE ∷ file ∷ keytab ∷ at ∷ skew ∷ only ∷ [] }

abbrev pub file_commands : List Entry
file_commands = list_keytab ∷ list_ccache ∷ check_keytab ∷ check_ccache ∷ convert_keytab ∷ convert_ccache ∷ pick_key ∷ remove_key ∷ add_keys ∷ []

abbrev pub message_commands : List Entry
message_commands = request ∷ accept ∷ finish ∷ explain ∷ []

abbrev pub commands : List Entry
commands = file_commands ++ message_commands

-- the entry of a command, and what the command has of each operand and option
abbrev pub asked : Command → Entry × List Value
asked (ListKeytab readable file) = (list_keytab, given readable ∷ word file ∷ [])
asked (ListCcache Lines file) = (list_ccache, given false ∷ optional None ∷ word file ∷ [])
asked (ListCcache (Table now) file) = (list_ccache, given true ∷ optional now ∷ word file ∷ [])
asked (CheckKeytab file) = (check_keytab, word file ∷ [])
asked (CheckCcache file) = (check_ccache, word file ∷ [])
asked (ConvertKeytab file out replace) = (convert_keytab, word file ∷ word out ∷ given replace ∷ [])
asked (ConvertCcache file out replace) = (convert_ccache, word file ∷ word out ∷ given replace ∷ [])
asked (PickKey words) = (pick_key, word words.keytab ∷ word words.name ∷ word words.etype ∷ optional words.kvno ∷ [])
asked (RemoveKey words) = (remove_key, word words.keytab ∷ word words.index ∷ optional words.out ∷ [])
asked (AddKeys words) = (add_keys, word words.keytab ∷ word words.from ∷ optional words.out ∷ [])
asked (Request words) = (request, word words.file ∷ word words.service ∷ word words.time ∷ word words.usec ∷ word words.confounder ∷ given words.mutual ∷ optional words.token ∷ [])
asked (Accept words) = (accept, word words.keytab ∷ word words.skew ∷ optional words.started ∷ optional words.service ∷ optional words.only ∷ given words.tokens ∷ [])
asked (Finish words) = (finish, word words.file ∷ word words.service ∷ word words.time ∷ word words.usec ∷ word words.reply ∷ [])
asked (Explain words) = (explain, optional words.message ∷ optional words.file ∷ optional words.keytab ∷ optional words.at ∷ word words.skew ∷ optional words.only ∷ [])
