use Rattle.pure_words.proofs.read.job_of_texts.Goals as goal

pub returns-in-Ok-job_in : goal.returns-in-Ok-job_in
returns-in-Ok-job_in c = λ name rest job are spelled. c.in-Ok-job_in.ensures name job (c.in-Ok.ensures.ok name rest job are spelled)
