use Rattle.orders.proofs.Files.{file-reads-back, file-cut-short, file-one-reading, file-one-form, file-appended}
use Rattle.orders.proofs.Listing.{file-listed}
use Rattle.orders.proofs.laws.file_laws.Goals as goal

pub returns : goal.returns
returns c = record { reads_back = file-reads-back; cut_short = file-cut-short; one_reading = file-one-reading; one_form = file-one-form; appended = file-appended; listed = file-listed }
