-- Made from interface.toml by `make generate`. Don't edit this file.
-- The sizes that options may have, in bytes, and what shorter ones stand for.
use Rattle.std.specs.Prelude.{ℕ, ◌==◌, if◌then◌else◌, false, replicate}
use Rattle.krb_c.specs.declared.structs.AcceptorOptions.{AcceptorOptions}

abbrev pub options_size : ℕ
options_size = 88

-- Options without terms: clients of any realm that aren't anonymous are let in, their bindings
-- aren't looked at, and a reply sends no subkey.
abbrev pub of_56 : AcceptorOptions → AcceptorOptions
of_56 options = record {
  size = options_size;
  started = options.started;
  skew = options.skew;
  restarts = options.restarts;
  any_name = options.any_name;
  any_start = options.any_start;
  limit = options.limit;
  limit_for_client = options.limit_for_client;
  bindings = 0;
  subkey_type = 0;
  bindings_hash = replicate 16 0;
  anonymous = false;
  only_realms = false;
}

-- the options that these stand for
abbrev pub whole : AcceptorOptions → AcceptorOptions
whole options = if options.size == 56 then of_56 options else options
