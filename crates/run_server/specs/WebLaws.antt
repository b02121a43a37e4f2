-- 503 tells of each fault of the disk and of nothing else, 507 of want of memory and of nothing else, and 201 of a filing that was added.
use Rattle.std.proofs.Common.{◌≡◌, refl}
use Rattle.std.specs.Prelude.{IsTrue}
use Rattle.aid_filings.specs.declared.reply.Response.{Response}
use Rattle.aid_filings.specs.declared.reply.Response.TheVariants.{Admit, Again, Refused, Quoted, Standing}
use Rattle.log_machine.specs.declared.reply.LogReply.{LogReply}
use Rattle.log_machine.specs.declared.reply.LogReply.TheVariants.{Answered, DiskFault, NoMemory}
use Rattle.web_workers.specs.NewEntry.{TellsFaults, is_added}
use Rattle.office_history.specs.Answer.{is_admit}
use Rattle.web_session.specs.declared.status.Status.TheVariants.{Created}
use Rattle.web_json.specs.Forms.{status_for}
use Rattle.run_server.specs.OfficeApi.{office_web}

pub unavailable : TellsFaults office_web
unavailable (Answered (Admit outcome) front) = ((λ is. absurd (let bad : ⊥ = cc in bad)), (λ is. absurd (let bad : ⊥ = cc in bad)), (λ is. absurd (let bad : ⊥ = cc in bad)), (λ is. absurd (let bad : ⊥ = cc in bad)))
unavailable (Answered (Again position outcome) front) = ((λ is. absurd (let bad : ⊥ = cc in bad)), (λ is. absurd (let bad : ⊥ = cc in bad)), (λ is. absurd (let bad : ⊥ = cc in bad)), (λ is. absurd (let bad : ⊥ = cc in bad)))
unavailable (Answered (Refused refusal) front) = ((λ is. absurd (let bad : ⊥ = cc in bad)), (λ is. absurd (let bad : ⊥ = cc in bad)), (λ is. absurd (let bad : ⊥ = cc in bad)), (λ is. absurd (let bad : ⊥ = cc in bad)))
unavailable (Answered (Quoted cents) front) = ((λ is. absurd (let bad : ⊥ = cc in bad)), (λ is. absurd (let bad : ⊥ = cc in bad)), (λ is. absurd (let bad : ⊥ = cc in bad)), (λ is. absurd (let bad : ⊥ = cc in bad)))
unavailable (Answered (Standing row) front) = ((λ is. absurd (let bad : ⊥ = cc in bad)), (λ is. absurd (let bad : ⊥ = cc in bad)), (λ is. absurd (let bad : ⊥ = cc in bad)), (λ is. absurd (let bad : ⊥ = cc in bad)))
unavailable (DiskFault undecided) = ((λ is. refl), (λ is. refl), (λ is. absurd (let bad : ⊥ = cc in bad)), (λ is. absurd (let bad : ⊥ = cc in bad)))
unavailable NoMemory = ((λ is. absurd (let bad : ⊥ = cc in bad)), (λ is. absurd (let bad : ⊥ = cc in bad)), (λ is. refl), (λ is. refl))

pub created : (reply : LogReply Response) → status_for reply ≡ Created → IsTrue (is_added is_admit reply)
created (Answered (Admit outcome) front) is = refl
created (Answered (Again position outcome) front) is = absurd (let bad : ⊥ = cc in bad)
created (Answered (Refused refusal) front) is = absurd (let bad : ⊥ = cc in bad)
created (Answered (Quoted cents) front) is = absurd (let bad : ⊥ = cc in bad)
created (Answered (Standing row) front) is = absurd (let bad : ⊥ = cc in bad)
created (DiskFault undecided) is = absurd (let bad : ⊥ = cc in bad)
created NoMemory is = absurd (let bad : ⊥ = cc in bad)
