mod AfterSilence
mod Leading
mod OneEnd
