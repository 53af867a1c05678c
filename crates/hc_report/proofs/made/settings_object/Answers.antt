use Rattle.serde_json.specs.Data.{no_members, string}
use Rattle.hc_report.specs.Made.{names_text}
use Rattle.hc_report.proofs.made.settings_object.Goals as goal

pub returns : goal.returns
returns c =
    let settings = c.args.settings.now in
    let slack = rw c.from.ensures at c.number.ensures.has no_members c.new-object.ensures.has in
    let ignored = c.put.ensures.has (string (names_text settings.ignored)) c.names_json.ensures _ slack in
    let errors_only = rw c.is_errors_only.ensures at c.flag.ensures.has _ ignored in
    let flags = c.flag-4.ensures.has _ (c.flag-3.ensures.has _ (c.flag-2.ensures.has _ errors_only)) in
    let default_ttl = rw c.seconds.ensures at c.some.ensures.has _ flags in
    let grace = rw c.seconds-2.ensures at c.some-2.ensures.has _ default_ttl in
    let normalized = c.put-2.ensures.has (string (names_text settings.allowed.normalized)) c.names_json-2.ensures _ grace in
    rw c.from-2.ensures at c.number-2.ensures.has _ (c.flag-5.ensures.has _ normalized)
