-- What contracts see of a date-time of the code, whose fraction of a second is left out.
use Rattle.std.specs.Prelude.{unsigned_abs}
use Rattle.jiff_core.specs.declared.civil.datetime.DateTime.{DateTime}
use Rattle.krb_time.specs.Time.{Civil}

abbrev pub plain_civil : DateTime → Civil
plain_civil t =
    record {
      year = unsigned_abs t.date.year;
      month = t.date.month;
      day = t.date.day;
      hour = t.time.hour;
      minute = t.time.minute;
      second = t.time.second;
    }
